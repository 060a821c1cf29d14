use Rattle.std.proofs.Common.{◌<◌, sym, subst, ◌∙◌, slice_index}
use Rattle.heap_theory.{proofs.Regions.{as_many_headers, length-headers_of, own_link}, specs.Region.{region_of}}
use Rattle.class_lists.proofs.ListChanges.{shown_beside, shown_pushed}
use Rattle.class_lists.proofs.lists.ClassLists.push.Goals as goal

pub returns-clause-others : goal.returns-clause-others
returns-clause-others c = λ front list shown apart. shown_beside _ c.args.slot _ front list c.set_link.ensures.region apart shown

pub returns-clause-pushed : goal.returns-clause-pushed
returns-clause-pushed c = λ list shown apart.
    let old = region_of c.args.layout.now c.args.memory.now in
    let front = slice_index c.args.self.now c.args.number in
    let set = c.set_link.ensures.region in
    let within = subst (λ n. c.args.slot < n) (sym (length-headers_of c.args.layout.now c.args.memory.now)) c.requires.slot in
    shown_pushed (region_of c.args.layout.now c.set_link.new.memory) front c.args.slot list
    (subst (λ n. c.args.slot < n) (sym (as_many_headers old c.args.slot _ set)) within)
    (own_link old c.args.slot _ set within ∙ c.front.ensures) (returns-clause-others c front list shown apart)
