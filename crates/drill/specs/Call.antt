-- How many words each call needs: as src/call has it. Assumes nothing.
use Rattle.std.specs.Prelude.{ℕ}
use Rattle.drill.specs.Request.{left, past_left, past_node, past_both}
use Rattle.drill.specs.declared.call.Call.{Call}
use Rattle.drill.specs.declared.call.Call.TheVariants.{Enter, Make, Reply, Judge, Take, Beat, RoundWords, ReadFrame, WriteFrame}
use Rattle.drill.specs.declared.call.Call.TheVariants.{ReadImage, WriteImage, ImageLength, Ordered, Empty, RoundRecord, WriteSheet, OpeningCost}

abbrev pub needed : Call → ℕ
needed Enter = past_left
needed Make = past_left
needed Reply = past_left
needed Judge = left
needed Take = past_node
needed Beat = past_node
needed RoundWords = past_both
needed ReadFrame = left
needed WriteFrame = left
needed ReadImage = past_node
needed WriteImage = past_node
needed ImageLength = left
needed Ordered = past_node
needed Empty = past_left
needed RoundRecord = past_both
needed WriteSheet = past_left
needed OpeningCost = left
