use Rattle.std.proofs.Common.{◌≡◌, ◌++◌, ℕ, List}
use Rattle.tenant_shards.specs.declared.kept.Entry.{Entry}
use Rattle.tenant_shards.specs.Finishes.{trail_at}
use Rattle.tenant_shards.specs.Tenants.{trail_in}
use Rattle.tenant_shards.proofs.finish.gathered.Given as goal

abbrev pub invariant-entries : goal.invariant-entries
invariant-entries l =
    (goal.iterator-entries).can_next l.entry-iterator × (goal.iterator-entries).is_finite l.entry-iterator
    × ((front : List Entry) × (l.fn.entries.items ≡ front ++ l.entry-iterator.rest.items) × ((n : ℕ) → trail_at n l.trails.entries ≡ trail_in n front))
