mod ChainSteps
mod FirstSteps
mod HeightSteps
mod NumberSteps
mod PrefixSteps
mod RuleSteps
