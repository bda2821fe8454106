-- The seeds of a key tree and its keys, for any cipher. Assumes nothing.
use Rattle.std.specs.Prelude.{ℕ, zero, suc, ◌+◌, ◌*◌, ◌/◌, ◌%◌, ◌^◌, cond, List, [], ◌∷◌, take, Some, None, Option, nat_lt, slice_index_or}
use Rattle.cipher.specs.declared.Block.{Block}
use Rattle.source.specs.Sources.{Keys}

abbrev pub block : ℕ → ℕ → Block
block high low = record { high = high; low = low }

-- The seed at a place of a path, where each takes two words.
abbrev pub seed_in : List ℕ → ℕ → Block
seed_in words place = block (slice_index_or words (2 * place) 0) (slice_index_or words (2 * place + 1) 0)

-- What a cipher makes of a key and a block.
abbrev pub Encrypted : Type 0
Encrypted = Block → Block → Block

-- The seed of the node with this index, so many levels below a node with the given seed: block (0, 0) encrypted under a node's seed
-- gives the seed of its left half, and block (0, 1) that of its right half.
abbrev pub walk : Encrypted → Block → ℕ → ℕ → Block
walk e seed zero index = seed
walk e seed (suc depth) index = e (walk e seed depth (index / 2)) (block 0 (index % 2))

-- Word t of a key, from the seed of its leaf.
abbrev pub leaf_word : Encrypted → Block → ℕ → ℕ
leaf_word e seed t = (e seed (block 0 (2 + t))).high

-- The words of a key: no kind of figure takes more than three.
abbrev pub leaf_words : Encrypted → Block → List ℕ
leaf_words e seed = leaf_word e seed 0 ∷ leaf_word e seed 1 ∷ leaf_word e seed 2 ∷ []

-- The words of key k of a tree, where the tree has the key.
abbrev pub tree_words : Encrypted → ℕ → Block → Keys (List ℕ)
tree_words e height root k = cond (nat_lt k (2 ^ height)) (Some (leaf_words e (walk e root height k))) None

-- The figure that is made of as many of the words as a key takes.
abbrev pub figured : {G : Type 0} → ℕ → (List ℕ → G) → Option (List ℕ) → Option G
figured width made (Some words) = Some (made (take width words))
figured width made None = None

abbrev pub figures : {G : Type 0} → ℕ → (List ℕ → G) → Keys (List ℕ) → Keys G
figures width made words k = figured width made (words k)

-- The keys of a tree, as figures.
abbrev pub tree_keys : {G : Type 0} → Encrypted → ℕ → (List ℕ → G) → ℕ → Block → Keys G
tree_keys e width made height root = figures width made (tree_words e height root)
