-- The frame behind a call of a method of a collection.
use Rattle.std.proofs.Common.{◌≡◌, Result, Ok, subst}
use Rattle.txn_heap.specs.declared.thing.Value.{Value}
use Rattle.stack_code.specs.declared.state.Config.{Config}
use Rattle.program_things.specs.declared.moved.Moved.{Moved}
use Rattle.program_things.specs.Collects.{SameFrame}

pub framed : (c d : Config) (v : Value) (got : Result Value Moved) → got ≡ Ok v → SameFrame c got d → d.top ≡ c.top
framed c d v got e h = subst (λ r. SameFrame c r d) e h
