-- What a text says, and why it is refused. Assumes nothing.
use Rattle.std.specs.Prelude.{◌≡◌, ℕ, ◌+◌, ◌*◌, ◌^◌, ◌<◌, ◌≤◌, List, ◌++◌, map, length, take, drop, Some, None, Ok, Err, Option, Result, ◌≢◌, slice_index_or}
use Rattle.std.specs.List.{flat_map}
use Rattle.refusal.specs.declared.Refusal.{Refusal}
use Rattle.refusal.specs.declared.Refusal.TheVariants.{Heading, TextLength, RowForm}
use Rattle.refusal.specs.Judged.{first}
use Rattle.cover.specs.Next.{list_rules}
use Rattle.grant.specs.declared.grant.row.Row.{Row}
use Rattle.grant.specs.declared.grant.Grant.{Grant}
use Rattle.grant.specs.Rows.{node_of, zero_row}
use Rattle.grant.specs.Grants.{rows_of}
use Rattle.grant_text.specs.Texts.{heading, row_line}

-- A height and rows, or a refusal.
abbrev pub Answer : Type 0
Answer = Result (ℕ × List Row) Refusal

-- A row's level and index fit their columns, and the words of its seed have 64 bits.
abbrev pub FitsLine : Row → Type 0
FitsLine r = (r.level < 10 ^ 3) × (r.index < 10 ^ 11) × (r.seed.high < 2 ^ 64) × (r.seed.low < 2 ^ 64)

abbrev pub AllFit : List Row → Type 0
AllFit rows = (i : ℕ) → i < length rows → FitsLine (slice_index_or rows i zero_row)

-- A height from 1 to 32, and 1 to 128 rows.
abbrev pub Sized : ℕ → ℕ → Type 0
Sized height count = (1 ≤ height) × (height ≤ 32) × (1 ≤ count) × (count ≤ 128)

-- The text begins with a heading in form.
abbrev pub Headed : List ℕ → ℕ → ℕ → Type 0
Headed bs height count = Sized height count × (take 12 bs ≡ heading height count)

-- The line of row i.
abbrev pub line : ℕ → List ℕ → List ℕ
line i bs = take 57 (drop (12 + 57 * i) bs)

-- The line of row i is that of r.
abbrev pub Shows : List ℕ → ℕ → Row → Type 0
Shows bs i r = FitsLine r × (line i bs ≡ row_line r)

-- The text has a heading in form and the length that this asks for, and its first lines are those of these rows.
pub record Begins (bs : List ℕ) (height count : ℕ) (rows : List Row) : Type 0 where
  pub headed : Headed bs height count
  pub long : length bs ≡ 12 + 57 * count
  pub few : length rows ≤ count
  pub fit : AllFit rows
  pub lines : take (12 + 57 * length rows) bs ≡ heading height count ++ flat_map row_line rows

-- The first fault of rows that follow one another in a tree, by their rules.
abbrev pub fault : ℕ → List Row → Option Refusal
fault height rows = first (list_rules height None (map node_of rows))

-- How reading ends that has come to these rows, row by row: by 14 when the next line is no row's, by the rules of rows that follow one
-- another, or with all rows read.
pub data Ends (bs : List ℕ) (height count : ℕ) (rows : List Row) (answer : Answer) : Type 0 where
  no_row : fault height rows ≡ None → length rows < count → ((r : Row) → Shows bs (length rows) r → ⊥) → answer ≡ Err RowForm → Ends bs height count rows answer
  faulty : (why : Refusal) → fault height rows ≡ Some why → answer ≡ Err why → Ends bs height count rows answer
  whole : fault height rows ≡ None → length rows ≡ count → answer ≡ Ok (height, rows) → Ends bs height count rows answer

-- A right answer to a text: by 12 when its heading is not in form, by 13 when it has another length than that asks for, and else as its rows say.
pub data Right (bs : List ℕ) (answer : Answer) : Type 0 where
  no_heading : ((height count : ℕ) → Headed bs height count → ⊥) → answer ≡ Err Heading → Right bs answer
  other_length : (height count : ℕ) → Headed bs height count → (length bs ≢ 12 + 57 * count) → answer ≡ Err TextLength → Right bs answer
  by_rows : (height count : ℕ) (rows : List Row) → Begins bs height count rows → Ends bs height count rows answer → Right bs answer

-- The right answer to the text, and the only one.
pub record Answered (bs : List ℕ) (answer : Answer) : Type 0 where
  pub right : Right bs answer
  pub only : (other : Answer) → Right bs other → other ≡ answer

-- A call's answer with the grant that it left.
abbrev pub told : {C R : Type 0} → Result R Refusal → Grant C → Answer
told (Ok x) g = Ok (g.height.levels, rows_of g)
told (Err why) g = Err why
