use Rattle.std.proofs.Common.{refl, ap, ◌∙◌, arith}
use Rattle.std.specs.Ordering.{nat_cmp}
use Rattle.std.specs.BTreeMap.{insert_entry}
use Rattle.std.proofs.lemmas.Option.{slice_get_read}
use Rattle.delete_cascades.proofs.Marks.{marked_more, none_more}
use Rattle.delete_cascades.proofs.level.mark.Goals as goal

pub returns-in-Ok : goal.returns-in-Ok
returns-in-Ok c = λ test h.
    c.in-Ok.ensures.entries
    ∙ ap (λ es. insert_entry nat_cmp es c.args.place c.in-Some.row.now.id) h
    ∙ marked_more c.args.place c.in-Some.row.now.id c.args.rows.now 0 c.args.place test c.in-Some.row.now (omega arith)
    (slice_get_read c.args.rows.now _ c.args.place c.in-Some.row.now refl c.in-Some.ensures.lookup.3.0 c.in-Some.ensures.lookup.1) refl

pub returns-in-None : goal.returns-in-None
returns-in-None c = λ test h. h ∙ none_more c.args.rows.now c.args.place test c.in-None.ensures.lookup.3
