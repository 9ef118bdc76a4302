pub mod RangeLemmas
pub mod FilmLemmas
