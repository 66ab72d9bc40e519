pub mod FieldLemmas
pub mod FunctionLemmas
pub mod NameOrderLemmas
pub mod WellFormedLemmas
pub mod ValueTreeLemmas
pub mod ValueOrderLemmas
pub mod ValueOrderLaws
pub mod NodeCountLemmas
mod LetGoLemmas
pub mod CharacterLemmas
pub mod ArityRows
pub mod NameRows
pub mod ValueRows
pub mod RowValues
