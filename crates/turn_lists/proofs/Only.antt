-- A word lists no other turns than those that it lists.
use Rattle.std.proofs.Common.{◌≡◌, refl, sym, ap, ◌∙◌, ℕ, ◌+◌, ◌%◌, ◌≤◌, ◌<◌, cond, List, [], ◌∷◌, ◌++◌, append_assoc, append-nil, arith}
use Rattle.std.specs.Prelude.{decimal}
use Rattle.std.proofs.lemmas.Fmt.{decimal_by_steps}
use Rattle.turn_lists.specs.declared.list.At.{At}
use Rattle.turn_lists.specs.declared.list.At.TheVariants.{Tenant, SessionNumber}
use Rattle.turn_lists.specs.declared.turn.Turn.{Turn}
use Rattle.turn_lists.specs.Laws.{ListsAreOnly}
use Rattle.turn_lists.specs.Lists.{AreTurns, IsTurn, Lists, behind_text, most, turn_text}
use Rattle.turn_lists.specs.Reading.{all_ended, ended, next, or_at, reads, turn_at}
use Rattle.turn_lists.proofs.Bytewise.{comma_no_digit, is_digit, none_listed, none_more, reads_append, turn_read}

all_ended_append : (at : At) (u v : List ℕ) → all_ended at (u ++ v) ≡ all_ended at u ++ all_ended (reads at u) v
all_ended_append at [] v = refl
all_ended_append at (b ∷ u) v =
    let more : ended at b ++ all_ended (next at b) (u ++ v) ≡ ended at b ++ (all_ended (next at b) u ++ all_ended (reads (next at b) u) v) = ap (λ ts. ended at b ++ ts) (all_ended_append (next at b) u v) in
    more ∙ sym (append_assoc (ended at b) (all_ended (next at b) u) (all_ended (reads (next at b) u) v))

-- no digit ends a turn
none_at_digit : (at : At) (d : ℕ) → d < 10 → ended at (48 + d) ≡ []
none_at_digit at d lt = ap (λ c. cond c (turn_at at) []) (comma_no_digit (48 + d) (is_digit d lt))

none_in_number : (n : ℕ) → n ≤ most → (at : At) → all_ended at (decimal n) ≡ []
none_in_number n le =
    decimal_by_steps (λ m ds. (at : At) → all_ended at ds ≡ [])
    (λ m lt at. append-nil (ended at (48 + m)) ∙ none_at_digit at m lt)
    (λ m ds ge before at.
    all_ended_append at ds ((48 + m % 10) ∷ [])
    ∙ ap (λ ts. ts ++ all_ended (reads at ds) ((48 + m % 10) ∷ [])) (before at)
    ∙ append-nil (ended (reads at ds) (48 + m % 10))
    ∙ none_at_digit (reads at ds) (m % 10) (omega arith))
    n (omega (arith, le))

none_in_turn : (t : Turn) → IsTurn t → all_ended Tenant (turn_text t) ≡ []
none_in_turn t h =
    all_ended_append Tenant (decimal t.tenant) (46 ∷ decimal t.session)
    ∙ ap (λ ts. ts ++ all_ended (reads Tenant (decimal t.tenant)) (46 ∷ decimal t.session)) (none_in_number t.tenant h.tenant Tenant)
    ∙ none_in_number t.session h.session (next (reads Tenant (decimal t.tenant)) 46)

-- the turns of a word that is read
abbrev turns_of : List ℕ → List Turn
turns_of word = all_ended Tenant word ++ turn_at (reads Tenant word)

-- a comma, and more behind it
more_are : (t : Turn) (rest : List ℕ) (ts : List Turn) → IsTurn t → turns_of rest ≡ ts → turns_of (turn_text t ++ 44 ∷ rest) ≡ t ∷ ts
more_are t rest ts h e =
    ap (λ es. es ++ turn_at (reads Tenant (turn_text t ++ 44 ∷ rest))) (all_ended_append Tenant (turn_text t) (44 ∷ rest))
    ∙ ap (λ es. (es ++ all_ended (reads Tenant (turn_text t)) (44 ∷ rest)) ++ turn_at (reads Tenant (turn_text t ++ 44 ∷ rest))) (none_in_turn t h)
    ∙ ap (λ a. all_ended (reads Tenant (turn_text t)) (44 ∷ rest) ++ turn_at a) (reads_append Tenant (turn_text t) (44 ∷ rest))
    ∙ ap (λ a. all_ended a (44 ∷ rest) ++ turn_at (reads a (44 ∷ rest))) (turn_read t h)
    ∙ ap (λ o. (t ∷ all_ended (or_at (SessionNumber t.tenant) o Tenant) rest) ++ turn_at (reads (or_at (SessionNumber t.tenant) o Tenant) rest)) (none_more t.session 44 refl)
    ∙ ap (λ es. t ∷ es) e

pairs_are : (t : Turn) (ts : List Turn) → IsTurn t → AreTurns ts → turns_of (turn_text t ++ behind_text ts) ≡ t ∷ ts
pairs_are t [] h hs =
    ap turns_of (append-nil (turn_text t))
    ∙ ap (λ es. es ++ turn_at (reads Tenant (turn_text t))) (none_in_turn t h)
    ∙ ap turn_at (turn_read t h)
pairs_are t (u ∷ ts) h hs = more_are t (turn_text u ++ behind_text ts) (u ∷ ts) h (pairs_are u ts hs.0 hs.1)

word_only : (word : List ℕ) (turns other : List Turn) → Lists word turns → Lists word other → other ≡ turns
word_only word [] other l m = none_listed other (sym m.0 ∙ l.0) m.1
word_only word (t ∷ ts) [] l m = sym (none_listed (t ∷ ts) (sym l.0 ∙ m.0) l.1)
word_only word (t ∷ ts) (u ∷ us) l m = sym (pairs_are u us m.1.0 m.1.1) ∙ ap turns_of (sym m.0 ∙ l.0) ∙ pairs_are t ts l.1.0 l.1.1

pub only : ListsAreOnly
only [] turns other c d = absurd c
only (w ∷ []) turns other c d = absurd c
only (w ∷ v ∷ []) turns other c d = word_only v turns other c.1 d.1
only (w ∷ v ∷ u ∷ ws) turns other c d = absurd c
