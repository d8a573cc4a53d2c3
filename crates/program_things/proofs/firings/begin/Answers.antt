use Rattle.std.proofs.Common.{ap}
use Rattle.stack_code.specs.Machine.{Goes}
use Rattle.stack_code.specs.declared.state.Config.{Config}
use Rattle.program_things.proofs.Fired.{begun}
use Rattle.program_things.proofs.firings.begin.Goals as goal

pub returns-clause-does : goal.returns-clause-does
returns-clause-does c =
    λ site image. (
      ap Goes
          (begun site image c.args.places c.args.run c.args.number c.args.context c.args.c.now c.set_mode.new.c c.in_ok-this.this _ _ _ _ c.len-first.ensures c.own_count-count.ensures.value c.in_ok-this.ensures.things c.in_ok-this.ensures.this
          c.in_ok-new.ensures c.set_mode.ensures),
      ap (λ (x : Config). x.mode) c.set_mode.ensures,
    )
