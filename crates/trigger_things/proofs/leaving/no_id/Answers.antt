use Rattle.std.proofs.Common.{refl, inl, arith, codes}
use Rattle.std.proofs.lemmas.List.Elements.{All-replicate}
use Rattle.apex_num.specs.Ids.{IsAlphanumeric}
use Rattle.trigger_things.proofs.leaving.no_id.Goals as goal

pub unreachable-requires : goal.unreachable-requires
unreachable-requires c = c.in-None.ensures.named (codes "000000000000000") ((refl, All-replicate IsAlphanumeric 15 48 (inl (omega arith, omega arith))), inl refl)
