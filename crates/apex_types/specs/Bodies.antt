-- The walk over bodies (docs/language.md, "Bodies").
use Rattle.std.specs.Prelude.{ℕ, false, cond, List, [], map}
use Rattle.fault_words.specs.declared.fault.FaultWord.TheVariants.{NoReturn}
use Rattle.apex_syntax.specs.declared.stmt.Body.{Body}
use Rattle.apex_syntax.specs.declared.stmt.Stmt.{Stmt}
use Rattle.class_walk.specs.Headers.{Nothing}
use Rattle.class_tables.specs.declared.member.ResultHead.{ResultHead}
use Rattle.class_tables.specs.declared.member.ResultHead.TheVariants.{Void}
use Rattle.statement_walk.specs.Scenes.{Locals, Scene}
use Rattle.statement_walk.specs.Statements.{body, statement, stmts_from}
use Rattle.statement_walk.specs.Endings.{body_ends}
use Rattle.type_names.specs.Walks.{Walk, Gives, wrong, onward}
use Rattle.typed_program.specs.declared.stmt.TypedStmt.{TypedStmt}

-- a body that has to answer a value gives one surely
abbrev pub given : ResultHead → Body → ℕ → Walk Nothing
given Void b at = Gives tt
given due b at = cond (body_ends b) (Gives tt) (wrong NoReturn at)

-- the body of a method, whose name stands at this byte, with the locals that its parameters are
abbrev pub method_body : Scene → Locals → Body → ℕ → Walk (List TypedStmt)
method_body s locals b at =
    onward (body s b false locals) (λ r.
    onward (given s.due b at) (λ _.
    Gives r.0))

-- statements that stand in no method
abbrev pub plain_body : Scene → List Stmt → Walk (List TypedStmt)
plain_body s ts = onward (stmts_from (map (statement s) ts) false [] []) (λ r. Gives r.0)
