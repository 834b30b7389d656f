-- What a `Head` keeps, and what it stands for.
use Rattle.opus_head.specs.declared.head.Head.TheInside.{Inside}
use Rattle.opus_head.specs.HeadValue.{HeadValue, IsHead}

abbrev pub value_inside : Inside → HeadValue
value_inside h = record {
  version = h.version;
  channels = h.channels;
  pre_skip = h.pre_skip;
  rate = h.rate;
  gain = h.gain;
  family = h.family;
  table = h.table;
  extra = h.extra;
}

abbrev pub IsHeadInside : Inside → Type 0
IsHeadInside h = IsHead (value_inside h)
