-- On a tape a machine has one end.
use Rattle.std.proofs.Common.{◌≡◌, ℕ, zero, suc, List, [], ◌∷◌, Option, Some}
use Rattle.apex_rows.specs.declared.query.Answer.{Answer}
use Rattle.apex_rows.specs.declared.query.Question.{Question}
use Rattle.save_meaning.specs.Sites.{Site}
use Rattle.tenant_trails.specs.Runs as Trail
use Rattle.stack_code.specs.Machine.{Next, Goes, Asks, Over}
use Rattle.stack_code.specs.Runs.{over_at, answered, drive, steps, Ends}
use Rattle.stack_code.specs.Steps.{step, given}
use Rattle.stack_code.specs.declared.image.Image.{Image}
use Rattle.stack_code.specs.declared.state.Config.{Config}

over_unique : (n m : ℕ) (o d e : Trail.Run) → over_at n o ≡ Some d → over_at m o ≡ Some e → d ≡ e
over_unique zero zero o d e h k = cc
over_unique zero (suc m) o d e h k = cc
over_unique (suc n) m o d e h k = cc

abbrev Agree : (f g : Config → List Answer → Option Trail.Run) → Type 0
Agree f g = (b : Config) (t : List Answer) (d e : Trail.Run) → f b t ≡ Some d → g b t ≡ Some e → d ≡ e

answer_unique : (n m : ℕ) (q : Question) (c : Config) (tape : List Answer) (f g : Config → List Answer → Option Trail.Run) → Agree f g →
    (d e : Trail.Run) → answered n f q c tape ≡ Some d → answered m g q c tape ≡ Some e → d ≡ e
answer_unique n m q c [] f g ih d e h k = over_unique n m (Trail.Asks q) d e h k
answer_unique n m q c (a ∷ tape) f g ih d e h k = ih (given c a) tape d e h k

drive_unique : (x : Next) (n m : ℕ) (c : Config) (tape : List Answer) (f g : Config → List Answer → Option Trail.Run) → Agree f g →
    (d e : Trail.Run) → drive n f x c tape ≡ Some d → drive m g x c tape ≡ Some e → d ≡ e
drive_unique (Goes b) n m c tape f g ih d e h k = ih b tape d e h k
drive_unique (Asks q) n m c tape f g ih d e h k = answer_unique n m q c tape f g ih d e h k
drive_unique (Over o) n m c tape f g ih d e h k = over_unique n m o d e h k

pub ends_unique : (site : Site) (image : Image) (n m : ℕ) (c : Config) (tape : List Answer) (d e : Trail.Run) →
    Ends site image c tape n d → Ends site image c tape m e → d ≡ e
ends_unique site image zero m c tape d e h k = cc
ends_unique site image (suc n) zero c tape d e h k = cc
ends_unique site image (suc n) (suc m) c tape d e h k =
    drive_unique (step site image c) n m c tape (steps site image n) (steps site image m) (λ b t x y g i. ends_unique site image n m b t x y g i) d e h k
