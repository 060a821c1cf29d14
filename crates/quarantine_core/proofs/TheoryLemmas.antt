-- What the proofs of this crate cite of links.
pub use Rattle.heap_theory.proofs.Linked.{IsLinked-append as put_after, IsLinked-ends as last_ends, IsLinked-once as each_once}
pub use Rattle.heap_theory.proofs.Linked.{IsLinked-one as one_list, IsLinked-same as links_stay, last_link-append as put_is_last}
