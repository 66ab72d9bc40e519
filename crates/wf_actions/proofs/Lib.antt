mod DoneLemmas
mod CountLemmas
