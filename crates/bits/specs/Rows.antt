-- What a kind of record must be for its bytes and its values to make each other up.
use Rattle.std.specs.Prelude.{◌≡◌, ℕ, ◌*◌, ◌^◌, ◌<◌, List, [], length}
use Rattle.bits.specs.Forms.{Form, InRange}
use Rattle.bits.specs.Layout.{values_in, packed, span, first_bad, AllKeep, Narrow}
use Rattle.bits.specs.declared.field.Field.{Field}

-- two rows that differ in their limits alone
pub record Alike (fs gs : List Field) : Type 0 where
  pub count : length fs ≡ length gs
  pub span : span fs ≡ span gs
  pub values : (bs : List ℕ) → values_in fs bs ≡ values_in gs bs
  pub bits : (vs : List ℕ) → packed fs vs ≡ packed gs vs

-- fields that serve for those of a kind of record with these values: they lie alike and judge the values alike
pub record Stands {X : Type 0} (F : Form X) (vs : List ℕ) (fs : List Field) : Type 0 where
  pub alike : Alike fs (F.fields [])
  pub judges : (nth : ℕ) → first_bad nth 1 fs vs ≡ first_bad nth 1 (F.fields vs) vs

-- values that keep their ranges
abbrev pub Kept : {X : Type 0} → Form X → List ℕ → Type 0
Kept F vs = AllKeep (F.fields vs) vs

-- so many fields in so many bytes
pub record Sized {X : Type 0} (F : Form X) (fields bytes : ℕ) : Type 0 where
  pub count : length (F.fields []) ≡ fields
  pub size : F.size ≡ bytes
  pub few : fields < 256
  pub small : bytes < 2 ^ 32

-- the widths of a kind of record make up whole bytes and hang on no value, and its names give its values back
pub record Lawful {X : Type 0} (F : Form X) : Type 0 where
  pub narrow : Narrow (F.fields [])
  pub whole : span (F.fields []) ≡ 8 * F.size
  pub alike : (vs : List ℕ) → Alike (F.fields vs) (F.fields [])
  pub count : (x : X) → length (F.values x) ≡ length (F.fields [])
  pub back : (x : X) → InRange F x → F.named (F.values x) ≡ x
  pub forth : (vs : List ℕ) → length vs ≡ length (F.fields []) → AllKeep (F.fields vs) vs → F.values (F.named vs) ≡ vs
  pub limited : (vs : List ℕ) → length vs ≡ length (F.fields []) → AllKeep (F.fields vs) vs → F.limits (F.named vs)
