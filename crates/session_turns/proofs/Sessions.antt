-- The requests of a session.
use Rattle.std.proofs.Common.{arith, ◌≡◌, refl, sym, ap, subst, ◌∙◌, ℕ, zero, suc, ◌+◌, ◌<◌, ◌≤◌, List, [], ◌∷◌, length, get_or, Option, None, Some}
use Rattle.std.specs.Prelude.{slice_get}
use Rattle.std.proofs.lemmas.Option.{slice_get-get_or}
use Rattle.apex_requests.specs.declared.request.Request.{Request}
use Rattle.apex_requests.specs.declared.request.Ticket.{Ticket}
use Rattle.apex_schema.specs.declared.schema.Schema.{Schema}
use Rattle.record_ids.specs.Ids.{most}
use Rattle.save_stages.specs.Does.{HasIds}
use Rattle.stack_code.specs.declared.image.Image.{Image}
use Rattle.tenant_shards.specs.Parts.{request_in, ticket_of}
use Rattle.tenant_shards.specs.Shards.{Shared}
use Rattle.session_turns.specs.declared.attempt.Attempt.{Attempt}
use Rattle.session_runs.specs.Sessions.{HaveUsers}
use Rattle.session_turns.specs.Turns.{HasRequest, HasRequests, IsOpen, IsTried, StandsBy}

pub user_there : (k : ℕ) (rs : List Request) (r : Request) → HaveUsers rs → k < length rs → r ≡ get_or rs k r → suc r.user < most
user_there k [] r h lt e = absurd (omega (arith, lt))
user_there zero (x ∷ rs) r h lt e = subst (λ y. suc y.user < most) (sym e) h.0
user_there (suc k) (x ∷ rs) r h lt e = user_there k rs r h.1 (omega (arith, lt)) e

pub request_there : (k : ℕ) (rs : List Request) (r : Request) → k < length rs → r ≡ get_or rs k r → slice_get rs k ≡ Some r
request_there k rs r lt e = slice_get-get_or rs k r lt ∙ ap Some (sym e)

-- its ticket has numbers that Ids have room for
pub has_ids : (rs : List Request) (r : Request) (s k : ℕ) (ticket : Ticket) → length rs ≤ 1000000 → HaveUsers rs → suc s < most → k < length rs → r ≡ get_or rs k r → ticket ≡ ticket_of r s k → HasIds ticket
has_ids rs r s k ticket few users id lt e is = subst HasIds (sym is) (record { session = id; request = index k (length rs) few lt; user = user_there k rs r users lt e }) where
  index : (k n : ℕ) → n ≤ 1000000 → k < n → k < most
  index k n few lt = let many : most ≡ 14776336 = refl in omega (arith, few, lt, many)

pub has_request : (schema : Schema) (image : Image) (rs : List Request) (r : Request) (tenant s k : ℕ) (shard : Shared) → HasRequests schema image rs tenant s shard → k < length rs → r ≡ get_or rs k r → HasRequest schema image r tenant s k shard
has_request schema image rs r tenant s k shard h lt e = record {
  part = h.part;
  is_part = h.is_part;
  means = h.means;
  schema_is = h.schema_is;
  is_there = ap (λ o. request_in o k) h.is_session ∙ ap (λ qs. slice_get qs k) h.requests_are ∙ request_there k rs r lt e;
}

some_is : {A : Type 0} {a b : A} → Some a ≡ Some b → a ≡ b
some_is e = cc

pub open_at : (schema : Schema) (image : Image) (rs : List Request) (tenant s k : ℕ) (o : Option Attempt) (a : Attempt) (shard : Shared) → o ≡ Some a → StandsBy schema image rs tenant s k o shard → IsOpen schema image rs tenant s k a shard
open_at schema image rs tenant s k o a shard e h = subst (λ x. StandsBy schema image rs tenant s k x shard) e h

pub tried_at : (schema : Schema) (image : Image) (rs : List Request) (r : Request) (tenant s k : ℕ) (ticket : Ticket) (a : Attempt) (shard : Shared) → IsOpen schema image rs tenant s k a shard → k < length rs → r ≡ get_or rs k r → ticket ≡ ticket_of r s k → IsTried schema image ticket r.work tenant a shard
tried_at schema image rs r tenant s k ticket a shard h lt e is =
    let same : h.request ≡ r = some_is (sym h.is_request ∙ request_there k rs r lt e) in
    subst (λ t. IsTried schema image t r.work tenant a shard) (sym is) (subst (λ (q : Request). IsTried schema image (ticket_of q s k) q.work tenant a shard) same h.tried)
