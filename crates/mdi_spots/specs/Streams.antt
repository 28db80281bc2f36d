-- Refusal 11 (01, "Numbers given back"): a stream of another length than the description says. One condition for the reader, which asks it of
-- the items, for the writer and for the frame; it stands beside the description. Assumes nothing.
pub use Rattle.description.specs.Bytes.{filled}
