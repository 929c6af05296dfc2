-- What reading a run gives.
use Rattle.std.proofs.Common.{◌≡◌, ℕ, ◌+◌, ◌-◌, ◌*◌, ◌^◌, ◌<◌, ◌≤◌, List, [], ◌∷◌, ◌++◌, length, Option, Result, Ok, Err, sym, ap, subst, ◌∙◌, ◌⊎◌, inl, inr, append_assoc, length-append, arith}
use Rattle.std.specs.Prelude.{IfOk, IfErr}
use Rattle.std.specs.Int.{w32, to_be_bytes}
use Rattle.std.specs.List.{flat_map}
use Rattle.std.proofs.lemmas.List.Concat.{flat_map-cons}
use Rattle.desk_ops.specs.declared.op.Stamp.{Stamp}
use Rattle.desk_ops.specs.declared.op.Op.{Op}
use Rattle.desk_ops.specs.declared.op.Unlawful.{Unlawful}
use Rattle.desk_codec.specs.declared.form.FeedForm.{FeedForm}
use Rattle.desk_codec.specs.declared.form.FeedForm.TheVariants.{Runs}
use Rattle.desk_codec.specs.declared.fields.Fields.TheVariants.{Insert}
use Rattle.desk_codec.specs.Spelling.{spelling, IsHeld}
use Rattle.desk_codec.specs.Items.{One, Run, next_stamp, run_ops, symbol_spelling}
use Rattle.desk_codec.specs.Fault.{fields_of, cause, Mark, mark_bytes, IsNoRun, IsCut, IsUnlawful}
use Rattle.desk_codec.specs.Gathered.{Adds}
use Rattle.desk_codec.specs.ItemReading.{GivesItem, RunPrefix, GivesInserts, HasUnlawful}
use Rattle.desk_codec.proofs.GatheredLaws.{adds_then}
use Rattle.desk_codec.proofs.Numbers.{IsBytes}
use Rattle.desk_codec.proofs.HereLaws.{InsertOf, insert_of, cause_after, cause_first, marks_here, rest_bytes, begins, run_stands, run_there, run_unlawful}

-- ---- an insert before the others

inserts_before : (stamp parent : Stamp) (count : ℕ) (bytes rest end : List ℕ) (style ch : ℕ) (op : Op) (before mid after : Option (List Op)) → (count ≡ 0 → ⊥) → IsHeld op → InsertOf op stamp parent style ch → bytes ≡ style ∷ to_be_bytes w32 ch ++ rest → Adds before mid (op ∷ [])
    → GivesInserts (next_stamp stamp) stamp (count - 1) rest mid after end → GivesInserts stamp parent count bytes before after end
inserts_before stamp parent count bytes rest end style ch op before mid after some held i e m f =
    let first : symbol_spelling i.symbol ≡ style ∷ to_be_bytes w32 ch = ap mark_bytes i.mark in
    let many = f.many in
    record {
      symbols = i.symbol ∷ f.symbols;
      many = omega (arith, many, some);
      each = (subst (λ (o : Op). IsHeld o) i.is held, f.each);
      is = subst (λ (o : Op). Adds before after (o ∷ run_ops (next_stamp stamp) stamp f.symbols)) i.is (adds_then before mid after (op ∷ []) (run_ops (next_stamp stamp) stamp f.symbols) m f.is);
      prefix = e
          ∙ ap (λ (l : List ℕ). l ++ rest) (sym first)
          ∙ ap (λ (l : List ℕ). symbol_spelling i.symbol ++ l) f.prefix
          ∙ sym (append_assoc (symbol_spelling i.symbol) (flat_map symbol_spelling f.symbols) end)
          ∙ ap (λ (l : List ℕ). l ++ end) (sym (flat_map-cons symbol_spelling i.symbol f.symbols));
    }

pub inserts_more : {V : Type 0} (view : V → List ℕ) (r : Result V Unlawful) (stamp parent : Stamp) (count : ℕ) (bytes rest : List ℕ) (style ch : ℕ) (op : Op) (before mid after : Option (List Op)) → (count ≡ 0 → ⊥) → IsHeld op → fields_of op ≡ Insert stamp parent style ch
    → bytes ≡ style ∷ to_be_bytes w32 ch ++ rest → Adds before mid (op ∷ []) → IfOk r (λ v. GivesInserts (next_stamp stamp) stamp (count - 1) rest mid after (view v)) → IfOk r (λ v. GivesInserts stamp parent count bytes before after (view v))
inserts_more view (Ok v) stamp parent count bytes rest style ch op before mid after some held is e m f = inserts_before stamp parent count bytes rest (view v) style ch op before mid after some held (insert_of op stamp parent style ch is) e m f
inserts_more view (Err fault) stamp parent count bytes rest style ch op before mid after some held is e m f = tt

mark_there : (mark : Mark) (marks : List Mark) (bytes rest end : List ℕ) → bytes ≡ mark_bytes mark ++ rest → rest ≡ flat_map mark_bytes marks ++ end → bytes ≡ flat_map mark_bytes (mark ∷ marks) ++ end
mark_there mark marks bytes rest end e f = e ∙ ap (λ (l : List ℕ). mark_bytes mark ++ l) f ∙ sym (append_assoc (mark_bytes mark) (flat_map mark_bytes marks) end) ∙ ap (λ (l : List ℕ). l ++ end) (sym (flat_map-cons mark_bytes mark marks))

unlawful_before : (stamp parent : Stamp) (count : ℕ) (bytes rest : List ℕ) (style ch : ℕ) (op : Op) (first : Unlawful) → (count ≡ 0 → ⊥) → style < 2 ^ 8 → ch < 2 ^ 32 → IsHeld op → fields_of op ≡ Insert stamp parent style ch → bytes ≡ style ∷ to_be_bytes w32 ch ++ rest
    → HasUnlawful (next_stamp stamp) stamp (count - 1) rest first → HasUnlawful stamp parent count bytes first
unlawful_before stamp parent count bytes rest style ch op first some s c held is e h =
    let mark : Mark = record { style = style; ch = ch } in
    let many = h.many in
    record {
      marks = mark ∷ h.marks;
      many = omega (arith, many, some);
      values = ((s, c), h.values);
      rest = h.rest;
      prefix = mark_there mark h.marks bytes rest h.rest e h.prefix;
      is = cause_after stamp parent mark h.marks op first held is h.is;
    }

pub refused_more : {V : Type 0} (r : Result V Unlawful) (stamp parent : Stamp) (count : ℕ) (bytes rest : List ℕ) (style ch : ℕ) (op : Op) → (count ≡ 0 → ⊥) → style < 2 ^ 8 → ch < 2 ^ 32 → IsHeld op → fields_of op ≡ Insert stamp parent style ch → bytes ≡ style ∷ to_be_bytes w32 ch ++ rest
    → IfErr r (λ first. HasUnlawful (next_stamp stamp) stamp (count - 1) rest first) → IfErr r (λ first. HasUnlawful stamp parent count bytes first)
refused_more (Ok v) stamp parent count bytes rest style ch op some s c held is e h = tt
refused_more (Err first) stamp parent count bytes rest style ch op some s c held is e h = unlawful_before stamp parent count bytes rest style ch op first some s c held is e h

-- the first insert is not lawful, whatever the others are
pub refused_first : (stamp parent : Stamp) (count : ℕ) (bytes rest : List ℕ) (style ch : ℕ) (first : Unlawful) → (count ≡ 0 → ⊥) → style < 2 ^ 8 → ch < 2 ^ 32 → IsBytes bytes → 5 * count ≤ length bytes → bytes ≡ style ∷ to_be_bytes w32 ch ++ rest → cause (Insert stamp parent style ch) ≡ Err first
    → HasUnlawful stamp parent count bytes first
refused_first stamp parent count bytes rest style ch first some s c fits long e is =
    let mark : Mark = record { style = style; ch = ch } in
    let len : length bytes ≡ 5 + length rest = ap (λ (l : List ℕ). length l) e ∙ length-append (mark_bytes mark) rest in
    let m = marks_here (count - 1) rest (rest_bytes bytes (mark_bytes mark) rest fits e) (omega (arith, long, len, some)) in
    let many = m.many in
    record { marks = mark ∷ m.marks; many = omega (arith, many, some); values = ((s, c), m.values); rest = m.rest; prefix = mark_there mark m.marks bytes rest m.rest e m.prefix; is = cause_first stamp parent mark m.marks first is }

-- ---- a run

pub miscounted : (bytes : List ℕ) (stamp parent : Stamp) (count : ℕ) (rest : List ℕ) → RunPrefix bytes stamp parent count rest → (count < 2) ⊎ ((2 ≤ count) × (64 < count)) → IsNoRun Runs bytes
miscounted bytes stamp parent count rest h (inl few) = record { runs = tt; count = count; rest = rest; prefix = begins bytes stamp parent count rest h.prefix; out = λ within. let least = within.0 in omega (arith, few, least) }
miscounted bytes stamp parent count rest h (inr many) = record { runs = tt; count = count; rest = rest; prefix = begins bytes stamp parent count rest h.prefix; out = λ within. let most = within.1 in let out = many.1 in omega (arith, out, most) }

pub cut_symbols : (bytes : List ℕ) (stamp parent : Stamp) (count : ℕ) (rest : List ℕ) → RunPrefix bytes stamp parent count rest → 2 ≤ count → count ≤ 64 → length rest < 5 * count → IsCut Runs bytes
cut_symbols bytes stamp parent count rest h least most short = inr (inr (record { runs = tt; count = count; rest = rest; prefix = begins bytes stamp parent count rest h.prefix; within = (least, most); short = short }))

pub run_given : (bytes : List ℕ) (stamp parent : Stamp) (count : ℕ) (rest end : List ℕ) (before after : Option (List Op)) → RunPrefix bytes stamp parent count rest → 2 ≤ count → count ≤ 64 → GivesInserts stamp parent count rest before after end → GivesItem Runs bytes before after end
run_given bytes stamp parent count rest end before after h least most g =
    record { item = Run stamp parent g.symbols; stands = run_stands Runs stamp parent count g.symbols tt (least, most) g.many g.each; is = g.is; prefix = run_there bytes stamp parent count rest end g.symbols h.prefix g.many g.prefix }

pub run_refused : (bytes : List ℕ) (stamp parent : Stamp) (count : ℕ) (rest : List ℕ) (first : Unlawful) → RunPrefix bytes stamp parent count rest → 2 ≤ count → count ≤ 64 → HasUnlawful stamp parent count rest first → IsUnlawful Runs bytes first
run_refused bytes stamp parent count rest first h least most g = run_unlawful Runs bytes stamp parent count rest g.rest g.marks first tt h.stamp_value h.parent_value h.prefix (least, most) g.many g.values g.prefix g.is

-- ---- an item whose kind is no run's

pub op_given : (form : FeedForm) (bytes rest : List ℕ) (op : Op) (before after : Option (List Op)) → IsHeld op → bytes ≡ spelling op ++ rest → Adds before after (op ∷ []) → GivesItem form bytes before after rest
op_given form bytes rest op before after held e is = record { item = One op; stands = held; is = is; prefix = e }
