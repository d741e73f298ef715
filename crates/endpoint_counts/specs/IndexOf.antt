-- An index next to a table: it pairs the number of each item with the key of that item.
use Rattle.std.specs.Prelude.{◌≡◌, ℕ, ◌+◌, ◌≤◌, List, length, Option, Some, None}
use Rattle.std.specs.Option.{is_some}
use Rattle.ordered_index.specs.Ordered.{OrderedIndex, is_in, is_key, one_of, IsKeyIn, IsRekeyed}
use Rattle.coap_pending.specs.Table.{Numbered, count, item_at}

abbrev pub key_at : {A : Type 0} → (A → Option ℕ) → Option A → Option ℕ
key_at key_of None = None
key_at key_of (Some a) = key_of a

-- the index pairs each item's number with the item's key, if it has one
pub record IsIndexOf {A : Type 0} (key_of : A → Option ℕ) (items : List (Numbered A)) (most : ℕ)
    (index : OrderedIndex)
    : Type 0 where
  pub members :
      (o n : ℕ) → is_in (o, n) index.pairs ≡ is_key o (key_at key_of (item_at n items))
  pub length : length index.pairs ≡ count (λ a. is_some (key_of a)) items
  pub limit : index.limit ≡ most

-- a number can pass to another key, and has passed to it
pub record CanRekey (index : OrderedIndex) (number : ℕ) (was is : Option ℕ) : Type 0 where
  pub key : IsKeyIn index.pairs number was
  pub room : length index.pairs + one_of is ≤ index.limit + one_of was

pub record HasRekeyed (old new : OrderedIndex) (number : ℕ) (was is : Option ℕ) : Type 0 where
  pub limit : new.limit ≡ old.limit
  pub seed : new.seed ≡ old.seed
  pub length : length new.pairs + one_of was ≡ length old.pairs + one_of is
  pub rekeyed : IsRekeyed old.pairs new.pairs number is
