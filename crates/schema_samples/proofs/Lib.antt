mod FormulaSamples
mod PlanSamples
mod Samples
mod RuleSamples
