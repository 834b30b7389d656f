mod RecordLemmas
mod StreamLemmas
