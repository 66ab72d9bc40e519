mod DataRows
mod VariableRows
mod ConnectRows
mod RetryRows
mod OpeningRows
mod DoneRows
mod SchemaRows
