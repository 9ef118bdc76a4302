mod ListSteps
mod FirstOffers
