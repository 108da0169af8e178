-- What is wrong with a recording, as a text.
-- Assumes nothing.
use Rattle.std.specs.Prelude.{ℕ, List, ◌++◌, codes, decimal}
use Rattle.pcap.specs.declared.fault.Wrong.{Wrong}
use Rattle.pcap.specs.declared.fault.Wrong.TheVariants.{NotARecording, UnknownVersion, LinkTypeNotEthernet, LengthLies, TooLong, UnknownInterface, TooManyInterfaces, UnknownResolution, TimeOutOfRange, CutInRecord}
use Rattle.pcap.specs.declared.fault.Fault.{Fault}

-- what is wrong
abbrev pub wrong_text : Wrong → List ℕ
wrong_text NotARecording = codes "neither pcap nor pcapng"
wrong_text (UnknownVersion n) = codes "unknown version " ++ (decimal n ++ codes " of the format")
wrong_text (LinkTypeNotEthernet n) = codes "link type " ++ (decimal n ++ codes " is not Ethernet, which is 1")
wrong_text (LengthLies n) = codes "a length of " ++ (decimal n ++ codes " does not fit")
wrong_text (TooLong n) = codes "a record of " ++ (decimal n ++ codes " bytes is too long")
wrong_text (UnknownInterface n) = codes "interface " ++ (decimal n ++ codes " is not described")
wrong_text TooManyInterfaces = codes "more than 64 interfaces in a section"
wrong_text (UnknownResolution n) = codes "unknown resolution " ++ (decimal n ++ codes " of the times")
wrong_text TimeOutOfRange = codes "a time outside the years 1970 to 2554"
wrong_text CutInRecord = codes "the recording ends within a record"

-- what is wrong, and at which byte
abbrev pub fault_text : Fault → List ℕ
fault_text f = codes "byte " ++ (decimal f.place ++ (codes ": " ++ wrong_text f.wrong))
