-- The sentence of each refusal, as the bytes of its text. Assumes nothing.
use Rattle.std.specs.Prelude.{ℕ, List, codes}
use Rattle.refusal.specs.declared.Refusal.{Refusal}
use Rattle.refusal.specs.declared.Refusal.TheVariants.{Reversed, EmptySpan, SpanPastEnd, SpanNotAbove, NoSpans, TooManySpans, TooManyRows, Height, FanOut, Capacity, TooFewCells, Heading, TextLength, RowForm, RowPlace, RowOrder, RowHalves, ShortOutput, ShortScratch, Step, Weight, Full, Beyond, NoKeyBefore, NoKeyAfter, NothingLeft, KeyInNeither}

-- What went wrong and what to do.
abbrev pub sentence : Refusal → List ℕ
sentence Reversed = codes "the span runs backward: give the lower number first"
sentence EmptySpan = codes "the span names no key: its end must lie above its start"
sentence SpanPastEnd = codes "the span passes the last key: its end may be at most 2 to the power of the height"
sentence SpanNotAbove = codes "the spans touch or go back: each must start above the end of the one before it"
sentence NoSpans = codes "no span was given: name at least one"
sentence TooManySpans = codes "too many spans: give at most 16"
sentence TooManyRows = codes "the grant would need over 128 rows: ask for fewer or simpler spans"
sentence Height = codes "the height is out of range: take one from 1 to 32"
sentence FanOut = codes "the fan-out is out of range: take one from 2 to 64"
sentence Capacity = codes "the capacity is out of range: take one from 1 to 1048576"
sentence TooFewCells = codes "there are fewer cells than the tree needs: give more cells or lower the capacity"
sentence Heading = codes "the heading is not in form: it holds PASS, a height from 1 to 32 and a row count from 1 to 128"
sentence TextLength = codes "the text has the wrong length: it is 12 bytes and 57 for each row"
sentence RowForm = codes "a row is not in form: it holds four right-justified numbers that fit their fields"
sentence RowPlace = codes "a row lies outside the tree: check its level and its index"
sentence RowOrder = codes "a row begins before the one before it ends: put the rows in rising order"
sentence RowHalves = codes "two rows are the halves of one node: write that node as one row"
sentence ShortOutput = codes "the output has too few bytes: give a longer one"
sentence ShortScratch = codes "the scratch memory is too short: give at least 66 words"
sentence Step = codes "the step is out of range: take one from 1 to 65536"
sentence Weight = codes "the parcel is too heavy: at most 2147483647 grams can be entered"
sentence Full = codes "the store is full: begin a new epoch on a new store"
sentence Beyond = codes "the span passes the last line: end it at the number of lines or before"
sentence NoKeyBefore = codes "the key before the first line is missing: ask for a source that has it"
sentence NoKeyAfter = codes "the key after the last line is missing: ask for a source that has it"
sentence NothingLeft = codes "the grant has no key in the span: narrow it to a span that it has keys in"
sentence KeyInNeither = codes "neither grant has the key: ask for a grant that covers it"
