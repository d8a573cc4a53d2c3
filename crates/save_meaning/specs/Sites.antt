-- Where a request runs (docs/platform.md, "Saves").
use Rattle.apex_requests.specs.declared.request.Ticket.{Ticket}
use Rattle.apex_schema.specs.declared.schema.Schema.{Schema}

-- what code, saves and queries of a request find around them: the schema of its tenant, and its ticket
pub record Site : Type 0 where
  pub schema : Schema
  pub ticket : Ticket
