use Rattle.std.proofs.Common.{rules}
use Rattle.std.proofs.lemmas.List.{nil_from_length}
use Rattle.txn_overlay.proofs.Writing.{begins, row_written, gone_written, own_dropped, all_written}
use Rattle.txn_overlay.proofs.overlay.Overlay.into_writes.Goals as goal

pub loop-entry-init : goal.loop-entry-init
loop-entry-init c = begins c.args.ticket.now.session c.args.ticket.now.index _ _ c.args.self c.self.inside.changes.entries c.self.view_is c.new-puts.ensures c.new-drops.ensures

pub loop-entry-preserved-in-Continue-1 : goal.loop-entry-preserved-in-Continue-1
loop-entry-preserved-in-Continue-1 c =
    row_written c.args.ticket.now.session c.args.ticket.now.index c.loop-entry.puts c.loop-entry.drops c.args.self c.push.new.self c.loop-entry.changes.entries c.pop_first.new.self.entries c.in-Some.entry c.in-Now.row
    c.loop-entry.invariant c.in-Some.ensures.removal c.in-Now.is c.in_ok-push-in-Now.ensures.ok

pub loop-entry-preserved-in-Continue-branch-2 : goal.loop-entry-preserved-in-Continue-branch-2
loop-entry-preserved-in-Continue-branch-2 c =
    gone_written c.args.ticket.now.session c.args.ticket.now.index c.loop-entry.puts c.loop-entry.drops c.args.self c.push-then-not-is_minted_by.new.self c.loop-entry.changes.entries c.pop_first.new.self.entries c.in-Some.entry
    c.loop-entry.invariant c.in-Some.ensures.removal c.in-Gone.is (search (rules)) c.in_ok-push-in-Gone.ensures.ok

pub loop-entry-preserved : goal.loop-entry-preserved
loop-entry-preserved c =
    own_dropped c.args.ticket.now.session c.args.ticket.now.index c.loop-entry.puts c.loop-entry.drops c.args.self c.loop-entry.changes.entries c.pop_first.new.self.entries c.in-Some.entry
    c.loop-entry.invariant c.in-Some.ensures.removal c.in-Gone.is (search (rules))

pub returns : goal.returns
returns c =
    all_written c.args.ticket.now.session c.args.ticket.now.index c.loop-entry.puts c.loop-entry.drops c.args.self c.loop-entry.changes.entries c.loop-entry.invariant (search (rules, nil_from_length))
