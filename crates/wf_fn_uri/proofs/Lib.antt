pub mod EscapeLemmas
pub mod DataUriLemmas
pub mod LawLemmas
pub mod EscapesRows
pub mod EncodingsRows
pub mod PartsRows
