-- The log of a request, question by question.
use Rattle.std.proofs.Common.{◌≡◌, refl, ap, ℕ, zero, suc, Bool, true, false, List, [], ◌∷◌, ◌++◌, length}
use Rattle.apex_rows.specs.declared.query.Answer.{Answer}
use Rattle.apex_rows.specs.declared.query.Question.{Question}
use Rattle.apex_rows.specs.declared.row.Row.{Row}
use Rattle.tenant_trails.specs.Runs.{Run, Follows}
use Rattle.tenant_shards.specs.Logs.{AreCurrent, IsLogOf, IsStaleAt}

module _ (rows : List Row) (go : List Answer → Run) where
  -- where nothing differs, the answers are the tape of the rows as they are
  pub follows : (before : List Answer) (qs : List Question) (more : List Answer) → IsLogOf go before qs more → AreCurrent rows qs more → Follows rows go before more
  follows before [] [] l c = tt
  follows before [] (a ∷ more) l c = absurd l
  follows before (q ∷ qs) [] l c = absurd l
  follows before (q ∷ qs) (a ∷ more) l c = (q, l.0, c.0, follows (before ++ a ∷ []) qs more l.1 c.1)

pub as_long : (go : List Answer → Run) (before : List Answer) (qs : List Question) (more : List Answer) → IsLogOf go before qs more → length qs ≡ length more
as_long go before [] [] l = refl
as_long go before [] (a ∷ more) l = absurd l
as_long go before (q ∷ qs) [] l = absurd l
as_long go before (q ∷ qs) (a ∷ more) l = ap suc (as_long go (before ++ a ∷ []) qs more l.1)

-- an answer that differs does so
pub not_both : (rows : List Row) (qs : List Question) (more : List Answer) (k : ℕ) → IsStaleAt rows qs more k → AreCurrent rows qs more → ⊥
not_both rows [] more k s c = s
not_both rows (q ∷ qs) [] k s c = c
not_both rows (q ∷ qs) (a ∷ more) zero s c = s c.0
not_both rows (q ∷ qs) (a ∷ more) (suc k) s c = not_both rows qs more k s.1 c.1

-- so it is only news that make an answer differ
pub must_be : (rows : List Row) (qs : List Question) (more : List Answer) (k : ℕ) (moved : Bool) → IsStaleAt rows qs more k → (moved ≡ false → AreCurrent rows qs more) → moved ≡ true
must_be rows qs more k true s seen = refl
must_be rows qs more k false s seen = absurd (not_both rows qs more k s (seen refl))
