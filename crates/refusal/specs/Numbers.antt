-- The number of each refusal. Assumes nothing.
use Rattle.std.specs.Prelude.{ℕ}
use Rattle.refusal.specs.declared.Refusal.{Refusal}
use Rattle.refusal.specs.declared.Refusal.TheVariants.{Reversed, EmptySpan, SpanPastEnd, SpanNotAbove, NoSpans, TooManySpans, TooManyRows, Height, FanOut, Capacity, TooFewCells, Heading, TextLength, RowForm, RowPlace, RowOrder, RowHalves, ShortOutput, ShortScratch, Step, Weight, Full, Beyond, NoKeyBefore, NoKeyAfter, NothingLeft, KeyInNeither}

-- 1 to 21 come from the input, 31 to 36 from the state.
abbrev pub code : Refusal → ℕ
code Reversed = 1
code EmptySpan = 2
code SpanPastEnd = 3
code SpanNotAbove = 4
code NoSpans = 5
code TooManySpans = 6
code TooManyRows = 7
code Height = 8
code FanOut = 9
code Capacity = 10
code TooFewCells = 11
code Heading = 12
code TextLength = 13
code RowForm = 14
code RowPlace = 15
code RowOrder = 16
code RowHalves = 17
code ShortOutput = 18
code ShortScratch = 19
code Step = 20
code Weight = 21
code Full = 31
code Beyond = 32
code NoKeyBefore = 33
code NoKeyAfter = 34
code NothingLeft = 35
code KeyInNeither = 36
