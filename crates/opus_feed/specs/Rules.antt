-- The rule that a part of a packet breaks.
use Rattle.std.specs.Prelude.{ℕ, zero, suc, Bool, if◌then◌else◌}
use Rattle.opus_packet.specs.declared.fault.Rule.{Rule}
use Rattle.opus_packet.specs.declared.fault.Rule.TheVariants.{R1, R3, R4, R6, R7, Cut}
use Rattle.opus_feed.specs.declared.framing.Framing.{Framing}
use Rattle.opus_feed.specs.declared.framing.Framing.TheVariants.{Whole, SelfDelimited}
use Rattle.opus_feed.specs.declared.stage.Stage.{Stage}
use Rattle.opus_feed.specs.declared.stage.Stage.TheVariants.{Toc, Count, PadLength, Length, LengthEnd, Last, LastEnd, Ready, BadCount, BadPadding}
use Rattle.opus_feed.specs.declared.head.Head.{Head}

-- a part of an undelimited packet, by its code and VBR
abbrev pub rule_by : ℕ → Bool → Rule
rule_by zero vbr = R6
rule_by (suc zero) vbr = R3
rule_by (suc (suc zero)) vbr = R4
rule_by (suc (suc (suc code))) vbr = if vbr then R7 else R6

-- a part of its header: nothing was taken, or the TOC byte was
abbrev pub whole_rule : Stage → Head → Rule
whole_rule Toc h = R1
whole_rule Count h = rule_by h.shape.code h.shape.vbr
whole_rule PadLength h = rule_by h.shape.code h.shape.vbr
whole_rule Length h = rule_by h.shape.code h.shape.vbr
whole_rule LengthEnd h = rule_by h.shape.code h.shape.vbr
whole_rule Last h = rule_by h.shape.code h.shape.vbr
whole_rule LastEnd h = rule_by h.shape.code h.shape.vbr
whole_rule Ready h = rule_by h.shape.code h.shape.vbr
whole_rule BadCount h = rule_by h.shape.code h.shape.vbr
whole_rule BadPadding h = rule_by h.shape.code h.shape.vbr

abbrev pub opening_rule : Framing → Stage → Head → Rule
opening_rule Whole stage h = whole_rule stage h
opening_rule SelfDelimited stage h = Cut
