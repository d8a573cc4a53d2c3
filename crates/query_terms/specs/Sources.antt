-- What a query reads, and what it gives (docs/language.md, "Queries in code").
use Rattle.std.specs.Prelude.{ℕ, cond, List, Option, None, Some}
use Rattle.schema_names.specs.Names.{place_of}
use Rattle.apex_rows.specs.declared.query.Query.{Query}
use Rattle.apex_rows.specs.declared.query.Query.TheViews.{out-Query}
use Rattle.fault_words.specs.declared.fault.FaultWord.TheVariants.{BadQuery}
use Rattle.apex_schema.specs.declared.schema.Object.{Object}
use Rattle.apex_syntax.specs.declared.word.Word.{Word}
use Rattle.query_terms.specs.declared.source.ChildSource.{ChildSource}
use Rattle.record_words.specs.declared.entries.RecordWord.{RecordWord}
use Rattle.record_words.specs.declared.entries.RecordWord.TheVariants as W
use Rattle.record_words.specs.Words.{word_of}
use Rattle.static_types.specs.declared.kind.Primitive.TheVariants as P
use Rattle.static_types.specs.declared.kind.ValueType.TheVariants as V
use Rattle.type_names.specs.Walks.{Walk, Gives, wrong}
use Rattle.typed_program.specs.declared.expr.TypedBind.{TypedBind}
use Rattle.typed_program.specs.declared.expr.TypedExpr.{TypedExpr}
use Rattle.typed_program.specs.declared.expr.TypedExpr.TheVariants as T
use Rattle.typed_values.specs.declared.typed.Kind.{Kind}
use Rattle.typed_values.specs.declared.typed.Kind.TheVariants.{Is}
use Rattle.typed_values.specs.declared.typed.Role.TheVariants as R
use Rattle.typed_values.specs.declared.typed.Typed.{Typed}
use Rattle.typed_values.specs.Fits.{typed, plain}

abbrev pub found_or : Option ℕ → ℕ → Walk ℕ
found_or (Some object) at = Gives object
found_or None at = wrong BadQuery at

abbrev pub object_named : List (List ℕ) → Word → Walk ℕ
object_named names w = found_or (place_of names w.name) w.span.from

-- a subquery names a children word
abbrev pub children_of : Option RecordWord → ℕ → Walk ChildSource
children_of (Some (W.Children child n)) at = Gives (record { object = child; lookup = n })
children_of _ at = wrong BadQuery at

abbrev pub children_named : List Object → ℕ → Word → Walk ChildSource
children_named objects object w = children_of (word_of objects (record { object = object; name = w.name })) w.span.from

abbrev pub listed : ℕ → Kind
listed object = Is (V.List (V.Record object))

-- COUNT() is a number, and everything else a list that may stand for its only record
abbrev pub query_value : ℕ → Query → List TypedBind → Typed
query_value at query binds =
    cond (out-Query query).counted (plain at (Is (V.Primitive P.Integer)) (T.Query query binds))
    (typed at (listed (out-Query query).object) R.Query (T.Query query binds))
