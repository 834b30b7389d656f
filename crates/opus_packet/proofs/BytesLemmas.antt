-- Lemmas on lists of bytes.
pub use Rattle.opus_io.proofs.BytesLemmas.{AreBytes-at, AreBytes-from, AreBytes-append, AreBytes-left, AreBytes-right, AreBytes-take, AreBytes-drop, AreBytes-zeros}
