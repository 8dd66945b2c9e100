pub mod ValueLemmas
mod LineLemmas
mod SessionLemmas
mod RunLemmas
