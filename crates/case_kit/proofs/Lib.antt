mod LineLaws
mod WayLemmas
mod WordLaws
