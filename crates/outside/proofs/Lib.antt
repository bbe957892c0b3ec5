pub mod Laws
mod StreamLemmas
