-- Lemmas on what processes cost.
pub mod AccessCosts
pub mod AccessNeeds
pub mod ChargeLemmas
pub mod Copied
pub mod CostSteps
pub mod Costed
pub mod Costs
pub mod Hits
pub mod Weighed
pub mod MapFirst
pub mod Relief
pub mod Sizes
pub mod Totals
