pub mod FilmLemmas
