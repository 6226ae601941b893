-- What a reader with cells answers is what the puts of the text say.
use Rattle.std.proofs.Common.{◌≡◌, ℕ, ◌+◌, ◌-◌, ◌<◌, ◌⊎◌, inl, inr, ⊎_elim, List, [], ◌∷◌, ◌++◌, length, Option, Some, None, Ok, Err, refl, sym, ap, ◌∙◌, arith, true, false, Bool, subst, append-nil, append_assoc, get_or-set_same, get_or-set_other, length-set}
use Rattle.std.specs.Prelude.{◌==◌, Result, is_some, nat_lt, slice_set, if◌then◌else◌}
use Rattle.std.specs.Option.{option_or}
use Rattle.std.proofs.lemmas.Bool.{eqb-true, eqb-false, ltb-false}
use Rattle.ti_txt.specs.Grammar.{Put, fault_of, first_fault, given, is_mapped}
use Rattle.ti_txt.specs.Spots.{Cells, Keeps, cell_of, put_of, reached, settled, step_of, stored, with_spot}
use Rattle.ti_txt.specs.declared.fault.TxtFault.{TxtFault}
use Rattle.ti_txt.specs.declared.fault.TxtFault.TheVariants.{BadByte, Overlap, PastEnd, Unmapped}
use Rattle.ti_txt.specs.declared.spot.Spot.{Spot}
use Rattle.ti_txt.specs.declared.spot.Spot.TheVariants.{Before, Between, Origin, Half, Whole, Ended}
use Rattle.ti_txt.proofs.Complete.{none_some}
use Rattle.ti_txt.proofs.Lex.{Lexed, behind, lex, prefix, put_at, stands, stops}
use Rattle.ti_txt.proofs.Run.{go_on, run}
use Rattle.ti_txt.proofs.Steps.{chosen}

-- what a reader that stops answers: the first fault of a put, or the byte that no text goes on with
abbrev pub Stopped : List Put → Lexed → TxtFault → Type 0
Stopped before l f = (first_fault before l.puts ≡ Some f) ⊎ ((at : ℕ) × (f ≡ BadByte at) × (l.ending ≡ stops at) × (first_fault before l.puts ≡ None))

pub record Stood (before : List Put) (l : Lexed) (s : Spot) (cells : Cells) : Type 0 where
  pub ending : l.ending ≡ stands s
  pub good : first_fault before l.puts ≡ None
  pub keeps : Keeps cells (before ++ l.puts)

abbrev pub Simulates : List Put → Lexed → Result (Spot × Cells) TxtFault → Type 0
Simulates before l (Ok x) = Stood before l x.0 x.1
Simulates before l (Err f) = Stopped before l f

pub given_last : (before : List Put) (p : Put) (address : ℕ) → given (before ++ p ∷ []) address ≡ option_or (given before address) (if p.address == address then Some p.value else None)
given_last [] p address = refl
given_last (q ∷ before) p address = by (q.address == address) (given_last before p address) where
  by : (t : Bool) → given (before ++ p ∷ []) address ≡ option_or (given before address) (if p.address == address then Some p.value else None)
      → (if t then Some q.value else given (before ++ p ∷ []) address) ≡ option_or (if t then Some q.value else given before address) (if p.address == address then Some p.value else None)
  by true ih = refl
  by false ih = ih

-- A put with no fault is at an address of the memory that has no byte yet.
pub record Fresh (before : ℕ → Option ℕ) (p : Put) : Type 0 where
  pub small : p.address < 0x10000
  pub mapped : is_mapped p.address ≡ true
  pub none : before p.address ≡ None

none_of : (o : Option ℕ) (f : TxtFault) → (if is_some o then Some f else None) ≡ None → o ≡ None
none_of None f e = refl
none_of (Some x) f e = absurd (none_some f (sym e))

pub fresh : (before : ℕ → Option ℕ) (p : Put) → fault_of before p ≡ None → Fresh before p
fresh before p e = ⊎_elim (λ h. absurd (none_some (PastEnd p.at) (sym h.1)))
    (λ h. ⊎_elim (λ k. record { small = omega (arith, ltb-false 0xFFFF p.address h.0); mapped = k.0; none = none_of (before p.address) (Overlap p.at) k.1 })
    (λ k. absurd (none_some (Unmapped p.at) (sym k.1)))
    (chosen (is_mapped p.address) (if is_some (before p.address) then Some (Overlap p.at) else None) (Some (Unmapped p.at)) None h.1))
    (chosen (nat_lt 0xFFFF p.address) (Some (PastEnd p.at)) (if is_mapped p.address then (if is_some (before p.address) then Some (Overlap p.at) else None) else Some (Unmapped p.at)) None e)

or_none : (o : Option ℕ) → o ≡ option_or o None
or_none None = refl
or_none (Some x) = refl

put_same : (before : ℕ → Option ℕ) (p : Put) (address : ℕ) (t : Bool) → (p.address == address) ≡ t → before p.address ≡ None → (cells : Cells) → length cells ≡ 0x10000 → p.address < 0x10000
    → ((a : ℕ) → cell_of cells a ≡ before a) → cell_of (slice_set cells p.address (Some p.value)) address ≡ option_or (before address) (if t then Some p.value else None)
put_same before p address true e none cells size small each =
    let within : p.address < length cells = omega (arith, size, small) in
    subst (λ a. cell_of (slice_set cells p.address (Some p.value)) a ≡ option_or (before a) (Some p.value)) (eqb-true p.address address e)
    (get_or-set_same cells p.address (Some p.value) None within ∙ sym (ap (λ o. option_or o (Some p.value)) none))
put_same before p address false e none cells size small each =
    get_or-set_other cells p.address address (Some p.value) None (λ h. eqb-false p.address address e (sym h)) ∙ each address ∙ or_none (before address)

keeps_more : (cells : Cells) (before : List Put) (p : Put) → Keeps cells before → Fresh (given before) p → Keeps (slice_set cells p.address (Some p.value)) (before ++ p ∷ [])
keeps_more cells before p k f = record {
  size = length-set cells p.address (Some p.value) ∙ k.size;
  each = λ address. put_same (given before) p address (p.address == address) refl f.none cells k.size f.small k.each ∙ sym (given_last before p address);
}

-- the cells answer as the puts do
fault_same : (cells : Cells) (before : List Put) (p : Put) → Keeps cells before → fault_of (cell_of cells) p ≡ fault_of (given before) p
fault_same cells before p k = ap (λ o. if nat_lt 0xFFFF p.address then Some (PastEnd p.at) else (if is_mapped p.address then (if is_some o then Some (Overlap p.at) else None) else Some (Unmapped p.at))) (k.each p.address)

first_on : (before : List Put) (p : Put) (rest : List Put) → fault_of (given before) p ≡ None → first_fault before (p ∷ rest) ≡ first_fault (before ++ p ∷ []) rest
first_on before p rest e = ap (λ o. option_or o (first_fault (before ++ p ∷ []) rest)) e

shifted : (before : List Put) (p : Put) (l : Lexed) (r : Result (Spot × Cells) TxtFault) → fault_of (given before) p ≡ None → Simulates (before ++ p ∷ []) l r → Simulates before (prefix (p ∷ []) l) r
shifted before p l (Ok x) e h = record {
  ending = h.ending;
  good = first_on before p l.puts e ∙ h.good;
  keeps = subst (Keeps x.1) (append_assoc before (p ∷ []) l.puts) h.keeps;
}
shifted before p l (Err f) e h = ⊎_elim (λ g. inl (first_on before p l.puts e ∙ g)) (λ g. inr (g.0, g.1, g.2, first_on before p l.puts e ∙ g.3)) h

after_put : (before : List Put) (p : Put) (l : Lexed) (f : Option TxtFault) (cells : Cells) (s : Spot) (way : Spot → Cells → Result (Spot × Cells) TxtFault) → fault_of (given before) p ≡ f → Keeps cells before
    → ((c : Cells) → Keeps c (before ++ p ∷ []) → Simulates (before ++ p ∷ []) l (way s c))
    → Simulates before (prefix (p ∷ []) l) (go_on way (with_spot s (stored cells p f)))
after_put before p l (Some f) cells s way e k ih = inl (ap (λ o. option_or o (first_fault (before ++ p ∷ []) l.puts)) e)
after_put before p l None cells s way e k ih =
    shifted before p l (way s (slice_set cells p.address (Some p.value))) e (ih (slice_set cells p.address (Some p.value)) (keeps_more cells before p k (fresh (given before) p e)))

settles : (at : ℕ) (before : List Put) (s : Spot) (text : List ℕ) (cells : Cells) → Keeps cells before
    → ((b : List Put) (c : Cells) → Keeps c b → Simulates b (lex (at + 1) s text) (run (at + 1) s c text))
    → Simulates before (prefix (put_at at s) (lex (at + 1) s text)) (go_on (λ t c. run (at + 1) t c text) (with_spot s (settled at s cells)))
settles at before Before text cells k ih = ih before cells k
settles at before (Between next) text cells k ih = ih before cells k
settles at before (Origin n a) text cells k ih = ih before cells k
settles at before (Half next high) text cells k ih = ih before cells k
settles at before Ended text cells k ih = ih before cells k
settles at before (Whole a v) text cells k ih =
    subst (λ f. Simulates before (prefix (put_of (at - 1) a v ∷ []) (lex (at + 1) (Whole a v) text)) (go_on (λ t c. run (at + 1) t c text) (with_spot (Whole a v) (stored cells (put_of (at - 1) a v) f))))
    (sym (fault_same cells before (put_of (at - 1) a v) k))
    (after_put before (put_of (at - 1) a v) (lex (at + 1) (Whole a v) text) (fault_of (given before) (put_of (at - 1) a v)) cells (Whole a v) (λ t c. run (at + 1) t c text) refl k
    (λ c h. ih (before ++ put_of (at - 1) a v ∷ []) c h))

steps : (at : ℕ) (before : List Put) (o : Option Spot) (text : List ℕ) (cells : Cells) → Keeps cells before
    → ((s : Spot) (b : List Put) (c : Cells) → Keeps c b → Simulates b (lex (at + 1) s text) (run (at + 1) s c text))
    → Simulates before (behind at o (λ s. lex (at + 1) s text)) (go_on (λ t c. run (at + 1) t c text) (reached at o cells))
steps at before None text cells k ih = inr (at, refl, refl, refl)
steps at before (Some s) text cells k ih = settles at before s text cells k (ih s)

-- A reader with cells answers what the puts say.
pub simulates : (text : List ℕ) (at : ℕ) (s : Spot) (cells : Cells) (before : List Put) → Keeps cells before → Simulates before (lex at s text) (run at s cells text)
simulates [] at s cells before k = record { ending = refl; good = refl; keeps = subst (Keeps cells) (sym (append-nil before)) k }
simulates (b ∷ text) at s cells before k = steps at before (step_of s b) text cells k (λ t c d h. simulates text (at + 1) t d c h)
