-- Laws of puts into a store, and of the files behind them.
use Rattle.std.proofs.Common.{◌≡◌, ◌≢◌, ℕ, List, Option, Some, None, Bool, true, false, refl, sym, ap, ◌∙◌, if◌then◌else◌}
use Rattle.std.proofs.Math.Path.{fun_ext}
use Rattle.std.proofs.lemmas.Bool.{true≢false}
use Rattle.std.proofs.lemmas.Slice.Eq.{bytes_eq-Decides}
use Rattle.std.specs.Option.{option_map}
use Rattle.std.specs.Str.{bytes_eq}
use Rattle.base_io.proofs.HeldLemmas.{other_name, same_name}
use Rattle.base_io.specs.Files.{Files, Writes, WritesTold, WritesBoth, WritesBothTold, with_file}

-- `Writes` tells all the files, and `with_file` is what it tells.
pub writes_is : (name bytes : List ℕ) (old new : Files) → Writes name bytes old new → new ≡ with_file name bytes old
writes_is name bytes old new wrote = fun_ext (λ other. at other (bytes_eq name other) refl)
  where
    at : (other : List ℕ) (b : Bool) → bytes_eq name other ≡ b → new other ≡ (if b then Some bytes else old other)
    at other true is = ap new (sym ((bytes_eq-Decides name other).0 is)) ∙ wrote.there
    at other false is = wrote.others other (λ same. true≢false (sym (ap (λ n. bytes_eq name n) same ∙ same_name name) ∙ is))

pub with_file-writes : (name bytes : List ℕ) (old : Files) → Writes name bytes old (with_file name bytes old)
with_file-writes name bytes old = record {
  there = rw (same_name name) refl;
  others = λ other ne. rw (other_name name other ne) refl;
}

pub writes_told_is : (name bytes : List ℕ) (old new : Option Files) → WritesTold name bytes old new → new ≡ option_map (with_file name bytes) old
writes_told_is name bytes (Some old) (Some new) wrote = ap (λ f. Some f) (writes_is name bytes old new wrote)
writes_told_is name bytes (Some old) None wrote = absurd wrote
writes_told_is name bytes None (Some new) wrote = absurd wrote
writes_told_is name bytes None None wrote = refl

-- The same name twice: the last bytes stand.
pub writes_again : (name first second : List ℕ) (old mid new : Files) → Writes name first old mid → Writes name second mid new → Writes name second old new
writes_again name first second old mid new one two = record {
  there = two.there;
  others = λ other ne. two.others other ne ∙ one.others other ne;
}

-- Two names: both hold their bytes.
pub writes_both : (name bytes second_name second_bytes : List ℕ) (old mid new : Files) → name ≢ second_name → Writes name bytes old mid → Writes second_name second_bytes mid new
    → WritesBoth name bytes second_name second_bytes old new
writes_both name bytes second_name second_bytes old mid new differ one two = record {
  first = two.others name differ ∙ one.there;
  second = two.there;
  others = λ other ne second_ne. two.others other second_ne ∙ one.others other ne;
}

pub writes_again_told : (name first second : List ℕ) (old mid new : Option Files) → WritesTold name first old mid → WritesTold name second mid new → WritesTold name second old new
writes_again_told name first second (Some old) (Some mid) (Some new) one two = writes_again name first second old mid new one two
writes_again_told name first second (Some old) (Some mid) None one two = two
writes_again_told name first second (Some old) None new one two = absurd one
writes_again_told name first second None (Some mid) new one two = absurd one
writes_again_told name first second None None (Some new) one two = two
writes_again_told name first second None None None one two = tt

pub writes_both_told : (name bytes second_name second_bytes : List ℕ) (old mid new : Option Files) → name ≢ second_name → WritesTold name bytes old mid → WritesTold second_name second_bytes mid new
    → WritesBothTold name bytes second_name second_bytes old new
writes_both_told name bytes second_name second_bytes (Some old) (Some mid) (Some new) differ one two = writes_both name bytes second_name second_bytes old mid new differ one two
writes_both_told name bytes second_name second_bytes (Some old) (Some mid) None differ one two = two
writes_both_told name bytes second_name second_bytes (Some old) None new differ one two = absurd one
writes_both_told name bytes second_name second_bytes None (Some mid) new differ one two = absurd one
writes_both_told name bytes second_name second_bytes None None (Some new) differ one two = two
writes_both_told name bytes second_name second_bytes None None None differ one two = tt

-- Both in terms of the whole map.
pub writes_both_is : (name bytes second_name second_bytes : List ℕ) (old mid new : Files) → Writes name bytes old mid → Writes second_name second_bytes mid new
    → new ≡ with_file second_name second_bytes (with_file name bytes old)
writes_both_is name bytes second_name second_bytes old mid new one two =
    writes_is second_name second_bytes mid new two ∙ ap (λ files. with_file second_name second_bytes files) (writes_is name bytes old mid one)
