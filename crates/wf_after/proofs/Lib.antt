pub use Rattle.wf_json.proofs.PointerLemmas
mod GraphLemmas
mod PlaceLemmas
mod WorkedRows
