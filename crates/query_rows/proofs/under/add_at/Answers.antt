use Rattle.std.proofs.Common.{sym}
use Rattle.std.proofs.lemmas.Bool.{ltb-false}
use Rattle.std.proofs.lemmas.Option.{slice_get_past}
use Rattle.query_rows.proofs.FamilyPlaces.{none_there}
use Rattle.query_rows.proofs.under.add_at.Goals as goal

pub returns-in-None : goal.returns-in-None
returns-in-None c = none_there _ _ (slice_get_past c.args.rows.now c.args.place (ltb-false _ _ (sym (c.in-None.ensures.lookup.0))))
