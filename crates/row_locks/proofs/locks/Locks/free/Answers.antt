use Rattle.std.proofs.Common.{rules, ap, ◌∙◌}
use Rattle.std.proofs.lemmas.Map.Made.{filter_same_pairs}
use Rattle.row_locks.specs.Holders.{but}
use Rattle.row_locks.specs.Locks.{holder_of}
use Rattle.row_locks.proofs.Frees.{stays, own_free, others_free}
use Rattle.row_locks.proofs.locks.Locks.free.Goals as goal

pub returns-clause-own : goal.returns-clause-own
returns-clause-own c =
    let left = filter_same_pairs _ (stays c.args.tenant c.args.session) _ (λ k v b w f' t. search rules) _ _ c.retain.ensures.filtered in
    λ id. ap (λ es. holder_of c.args.tenant es id) left ∙ own_free c.args.tenant c.args.session c.self.inside.holders.entries id c.retain.ensures.was_unique ∙ ap (λ h. but c.args.session (holder_of c.args.tenant h.locks id)) c.self.view_is

pub returns-clause-others : goal.returns-clause-others
returns-clause-others c =
    let left = filter_same_pairs _ (stays c.args.tenant c.args.session) _ (λ k v b w f' t. search rules) _ _ c.retain.ensures.filtered in
    λ other n id. ap (λ es. holder_of other es id) left ∙ others_free c.args.tenant c.args.session other c.self.inside.holders.entries id n ∙ ap (λ h. holder_of other h.locks id) c.self.view_is
