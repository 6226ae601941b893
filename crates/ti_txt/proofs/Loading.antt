-- What loaded cells say of the text, and that a text has one answer.
use Rattle.std.proofs.Common.{◌≡◌, ℕ, ◌+◌, List, [], ◌∷◌, ◌++◌, Option, Some, None, refl, sym, ap, ◌∙◌, arith, subst, true, false, Bool}
use Rattle.std.specs.Prelude.{◌==◌, IsSome, if◌then◌else◌}
use Rattle.std.specs.Option.{option_or}
use Rattle.std.proofs.lemmas.Bool.{eqb-true}
use Rattle.ti_txt.specs.Bytes.{byte_in}
use Rattle.ti_txt.specs.Grammar.{Faulty, Holds, Put, fault_of, first_fault, given, is_mapped}
use Rattle.ti_txt.specs.Image.{Block}
use Rattle.ti_txt.specs.Spots.{Cells, Loaded, cell_of}
use Rattle.ti_txt.specs.Sweep.{sweep}
use Rattle.ti_txt.specs.declared.fault.TxtFault.{TxtFault}
use Rattle.ti_txt.specs.declared.fault.TxtFault.TheVariants.{BadByte, Overlap, PastEnd, Unmapped, NoEnd, Memory}
use Rattle.ti_txt.proofs.Complete.{complete, none_some, some_same}
use Rattle.ti_txt.proofs.Lex.{Lexed}
use Rattle.ti_txt.proofs.OneImage.{one_image}
use Rattle.ti_txt.proofs.Simulates.{fresh}
use Rattle.ti_txt.proofs.Swept.{Mapped, ascends, mapped, swept}
use Rattle.ti_txt.proofs.Verdict.{faulty_is, good_is}

none_first : (o r : Option TxtFault) → option_or o r ≡ None → (o ≡ None) × (r ≡ None)
none_first None r e = (refl, e)
none_first (Some f) r e = absurd (none_some f (sym e))

-- Good puts are at addresses of the memory.
given_mapped : (before rest : List Put) (a : ℕ) → first_fault before rest ≡ None → IsSome (given rest a) → is_mapped a ≡ true
given_mapped before [] a e h = absurd (some_none h) where
  some_none : IsSome {T = ℕ} None → ⊥
  some_none h = cc
given_mapped before (p ∷ rest) a e h =
    let f = none_first (fault_of (given before) p) (first_fault (before ++ p ∷ []) rest) e in
    by (p.address == a) refl (fresh (given before) p f.0).mapped (given_mapped (before ++ p ∷ []) rest a f.1) h where
      by : (t : Bool) → (p.address == a) ≡ t → is_mapped p.address ≡ true → (IsSome (given rest a) → is_mapped a ≡ true) → IsSome (if t then Some p.value else given rest a) → is_mapped a ≡ true
      by true same m ih h = subst (λ b. is_mapped b ≡ true) (eqb-true p.address a same) m
      by false same m ih h = ih h

pub cells_mapped : (text : List ℕ) (cells : Cells) → Loaded text cells → (a : ℕ) → IsSome (cell_of cells a) → is_mapped a ≡ true
cells_mapped text cells l a h = given_mapped [] l.puts a l.good (subst IsSome (l.keeps.each a) h)

swept_cell : (cells : Cells) (a : ℕ) → byte_in (sweep 0 [] cells) a ≡ cell_of cells a
swept_cell cells a = let e : a ≡ 0 + a = omega arith in ap (byte_in (sweep 0 [] cells)) e ∙ swept cells 0 0 [] a (omega arith)

-- Loaded cells hold an image of the text.
pub loaded_holds : (text : List ℕ) (cells : Cells) → Loaded text cells → Holds text (sweep 0 [] cells)
loaded_holds text cells l = record {
  puts = l.puts;
  written = l.written;
  good = l.good;
  image = ascends cells 0 0 0 [] (omega arith) (omega arith, λ none. absurd (omega (arith, none)))
      (λ k some. let e : k ≡ 0 + k = omega arith in subst Mapped e (mapped k (cells_mapped text cells l k some)));
  bytes = λ a. swept_cell cells a ∙ l.keeps.each a;
}

-- A text holds one image.
pub holds_one : (text : List ℕ) (bs cs : List Block) → Holds text bs → Holds text cs → bs ≡ cs
holds_one text bs cs h i =
    let same : h.puts ≡ i.puts = ap (λ (m : Lexed). m.puts) (sym (complete 0 None text h.puts h.written) ∙ complete 0 None text i.puts i.written) in
    one_image 0 bs cs h.image i.image (λ a. h.bytes a ∙ (ap (λ puts. given puts a) same ∙ sym (i.bytes a)))

pub holds_no_fault : (text : List ℕ) (bs : List Block) (f : TxtFault) → Holds text bs → Faulty text f → ⊥
holds_no_fault text bs f h g = none_some f (sym (good_is text h.puts h.written h.good) ∙ faulty_is text f g)

pub one_fault : (text : List ℕ) (f g : TxtFault) → Faulty text f → Faulty text g → f ≡ g
one_fault text f g h i = some_same f g (sym (faulty_is text f h) ∙ faulty_is text g i)

memory_left : (f : TxtFault) → ((f ≡ Memory → ⊥) → ⊥) → f ≡ Memory
memory_left (BadByte at) h = absurd (h (λ e. cc))
memory_left (Overlap at) h = absurd (h (λ e. cc))
memory_left (PastEnd at) h = absurd (h (λ e. cc))
memory_left (Unmapped at) h = absurd (h (λ e. cc))
memory_left (NoEnd at) h = absurd (h (λ e. cc))
memory_left Memory h = refl

-- No fault but want of memory is answered where the text holds an image.
pub only_memory : (text : List ℕ) (bs : List Block) (f : TxtFault) → Holds text bs → ((f ≡ Memory → ⊥) → Faulty text f) → f ≡ Memory
only_memory text bs f h g = memory_left f (λ other. holds_no_fault text bs f h (g other))
