-- Lines, computed by the definitions.
use Rattle.std.proofs.Common.{◌≡◌, Some, refl}
use Rattle.std.specs.Prelude.{codes}
use Rattle.std.specs.Fmt.{digits}
use Rattle.opus_sdp.specs.Table.{table}
use Rattle.opus_sdp.specs.Fault.{fmtp_fault}
use Rattle.opus_sdp.specs.Reading.{fmtp_in}
use Rattle.opus_sdp.specs.Printed.{fmtp_text}
use Rattle.opus_sdp.specs.declared.fault.SdpFault.TheVariants.{Value}

printed : fmtp_text (fmtp_in (codes "a=fmtp:111 useinbandfec=1; maxplaybackrate=16000;minptime=10"))
    ≡ codes "a=fmtp:111 maxplaybackrate=16000;useinbandfec=1;minptime=10"
unfolding fmtp_text table digits
printed = refl

stereo_2 : fmtp_fault (codes "a=fmtp:111 stereo=2") ≡ Some (Value 18)
unfolding fmtp_fault table
stereo_2 = refl
