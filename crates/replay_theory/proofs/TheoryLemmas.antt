-- What the proofs of this crate cite of the theory below it.
pub use Rattle.machine_theory.proofs.AccessLaws.{mapped_test, tag_fault_names, touch_faults as other_tag_faults, inside_succeeds as same_tags_succeed}
pub use Rattle.machine_theory.proofs.AddressLaws.{tag_fits, one_granule, moved_tag, moved_plain, moved_null}
pub use Rattle.machine_theory.proofs.TagLaws.{addg-some as addg_tagged, subg-some as subg_tagged}
pub use Rattle.machine_theory.proofs.TagLaws.{allowed_some as some_tag_is_allowed, is_excluded-one as other_tags_are_allowed}
