-- Queries as far as they are read (docs/language.md, "Queries in code").
use Rattle.std.specs.Prelude.{ℕ, Bool, true, false, cond, List, [], ◌∷◌, ◌++◌, length, map, Option, None, Some}
use Rattle.apex_rows.specs.declared.query.Cond.{Cond}
use Rattle.apex_rows.specs.declared.query.Cond.TheVariants.{All}
use Rattle.apex_rows.specs.declared.query.Path.{Path}
use Rattle.apex_rows.specs.declared.query.Query.{Query}
use Rattle.apex_rows.specs.declared.query.Query.TheViews.{roll-Query, roll-SubQuery}
use Rattle.apex_rows.specs.declared.query.SortKey.{SortKey}
use Rattle.apex_rows.specs.declared.query.SubQuery.{SubQuery}
use Rattle.apex_rows.specs.declared.query.Term.{Term}
use Rattle.apex_rows.specs.declared.query.Term.TheVariants.{Bound}
use Rattle.apex_rows.specs.declared.query.Terms.{Terms}
use Rattle.apex_rows.specs.declared.query.Terms.TheVariants as Ts
use Rattle.fault_words.specs.declared.fault.FaultWord.TheVariants.{BadQuery}
use Rattle.apex_schema.specs.declared.schema.Object.{Object}
use Rattle.apex_syntax.specs.declared.query.OrderTree.{OrderTree}
use Rattle.class_tables.specs.declared.head.ClassHead.{ClassHead}
use Rattle.query_terms.specs.Besides.{Beside}
use Rattle.query_terms.specs.Binds.{one_bind, list_bind}
use Rattle.query_terms.specs.Paths.{sort_key}
use Rattle.query_terms.specs.declared.open.OpenQuery.{OpenQuery}
use Rattle.static_types.specs.declared.kind.Primitive.{Primitive}
use Rattle.type_names.specs.Walks.{Walk, Gives, wrong, onward, all}
use Rattle.typed_values.specs.declared.typed.Typed.{Typed}

-- a query without WHERE has the condition that nothing more holds
abbrev pub opened : ℕ → OpenQuery
opened object = record {
  object = object;
  counted = false;
  paths = [];
  children = [];
  cond = All [];
  keys = [];
  limit = None;
  offset = None;
}

abbrev pub counting : OpenQuery → OpenQuery
counting s = record {
  object = s.object;
  counted = true;
  paths = s.paths;
  children = s.children;
  cond = s.«cond»;
  keys = s.keys;
  limit = s.limit;
  offset = s.offset;
}

abbrev pub with_path : OpenQuery → Path → OpenQuery
with_path s path = record {
  object = s.object;
  counted = s.counted;
  paths = s.paths ++ path ∷ [];
  children = s.children;
  cond = s.«cond»;
  keys = s.keys;
  limit = s.limit;
  offset = s.offset;
}

abbrev pub sub_query : ℕ → Query → SubQuery
sub_query lookup query = roll-SubQuery (record { lookup = lookup; query = query })

abbrev pub with_child : OpenQuery → ℕ → Query → OpenQuery
with_child s lookup query = record {
  object = s.object;
  counted = s.counted;
  paths = s.paths;
  children = s.children ++ sub_query lookup query ∷ [];
  cond = s.«cond»;
  keys = s.keys;
  limit = s.limit;
  offset = s.offset;
}

abbrev pub with_cond : OpenQuery → Cond → OpenQuery
with_cond s c = record {
  object = s.object;
  counted = s.counted;
  paths = s.paths;
  children = s.children;
  cond = c;
  keys = s.keys;
  limit = s.limit;
  offset = s.offset;
}

abbrev pub with_limit : OpenQuery → Term → OpenQuery
with_limit s term = record {
  object = s.object;
  counted = s.counted;
  paths = s.paths;
  children = s.children;
  cond = s.«cond»;
  keys = s.keys;
  limit = Some term;
  offset = s.offset;
}

abbrev pub with_offset : OpenQuery → Term → OpenQuery
with_offset s term = record {
  object = s.object;
  counted = s.counted;
  paths = s.paths;
  children = s.children;
  cond = s.«cond»;
  keys = s.keys;
  limit = s.limit;
  offset = Some term;
}

abbrev pub with_keys : OpenQuery → List SortKey → OpenQuery
with_keys s keys = record {
  object = s.object;
  counted = s.counted;
  paths = s.paths;
  children = s.children;
  cond = s.«cond»;
  keys = keys;
  limit = s.limit;
  offset = s.offset;
}

abbrev pub key_walks : List Object → ℕ → OrderTree → List (Walk SortKey)
key_walks objects object order = map (sort_key objects object) order.keys

-- COUNT() has no order
abbrev pub ordered : List Object → OpenQuery → OrderTree → Walk OpenQuery
ordered objects s order =
    cond s.counted (wrong BadQuery order.span.from) (onward (all (key_walks objects s.object order)) (λ keys. Gives (with_keys s keys)))

abbrev pub with_order : List Object → OpenQuery → Option OrderTree → Walk OpenQuery
with_order objects s (Some order) = ordered objects s order
with_order objects s None = Gives s

abbrev pub closed_query : OpenQuery → Bool → Query
closed_query s locked = roll-Query (record {
  object = s.object;
  counted = s.counted;
  paths = s.paths;
  children = s.children;
  cond = s.«cond»;
  keys = s.keys;
  limit = s.limit;
  offset = s.offset;
  locked = locked;
})

-- ---- terms of binds: a bind has the number of those before it

abbrev pub bound : List ClassHead → Primitive → ℕ → Typed → Beside Term
bound heads to at value binds = onward (one_bind heads to at value) (λ b. Gives (Bound (length binds), binds ++ b ∷ []))

abbrev pub bound_list : List ClassHead → Primitive → ℕ → Typed → Beside Terms
bound_list heads to at value binds = onward (list_bind heads to at value) (λ b. Gives (Ts.Bound (length binds), binds ++ b ∷ []))
