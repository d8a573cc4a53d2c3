-- Which tenants are run so far (docs/formats.md, "What is built").
use Rattle.std.specs.Prelude.{◌&&◌, Bool, true, false, List}
use Rattle.std.specs.List.{list_all}
use Rattle.schema_plans.specs.declared.plan.FieldPlan.{FieldPlan}
use Rattle.schema_plans.specs.declared.plan.ObjectPlan.{ObjectPlan}
use Rattle.schema_plans.specs.declared.plan.PlanKind.{PlanKind}
use Rattle.schema_plans.specs.declared.plan.PlanKind.TheVariants as Kind
use Rattle.schema_plans.specs.declared.plan.SchemaPlan.{SchemaPlan}
use Rattle.bundle_read.specs.declared.entries.RequestEntry.{RequestEntry}
use Rattle.bundle_read.specs.declared.entries.SessionEntry.{SessionEntry}
use Rattle.bundle_read.specs.declared.entries.TenantPlan.{TenantPlan}
use Rattle.bundle_read.specs.declared.entries.WorkEntry.{WorkEntry}
use Rattle.bundle_read.specs.declared.entries.WorkEntry.TheVariants.{Apex, Save}

-- its values come from no other row
abbrev pub is_plain_kind : PlanKind → Bool
is_plain_kind Kind.Text = true
is_plain_kind Kind.Number = true
is_plain_kind Kind.Checkbox = true
is_plain_kind Kind.Date = true
is_plain_kind Kind.Datetime = true
is_plain_kind Kind.Lookup = true
is_plain_kind Kind.MasterDetail = true
is_plain_kind Kind.Rollup = false

abbrev pub is_plain_field : FieldPlan → Bool
is_plain_field f = is_plain_kind f.kind

abbrev pub is_plain_object : ObjectPlan → Bool
is_plain_object o = list_all is_plain_field o.fields

abbrev pub is_plain_schema : SchemaPlan → Bool
is_plain_schema p = list_all is_plain_object p.objects

abbrev pub is_block : WorkEntry → Bool
is_block (Apex text) = true
is_block (Save save) = false

abbrev pub is_plain_request : RequestEntry → Bool
is_plain_request r = is_block r.work

abbrev pub is_plain_session : SessionEntry → Bool
is_plain_session s = list_all is_plain_request s.requests

abbrev pub are_plain : List SessionEntry → Bool
are_plain sessions = list_all is_plain_session sessions

-- a tenant whose objects have no roll-ups, and whose requests are blocks
abbrev pub is_built : TenantPlan → Bool
is_built t = is_plain_schema t.schema && are_plain t.sessions
