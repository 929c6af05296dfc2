-- A reader of pieces stays one.
use Rattle.std.proofs.Common.{◌≡◌, ℕ, ◌+◌, ◌-◌, ◌*◌, ◌<◌, ◌≤◌, false, List, [], ◌∷◌, ◌++◌, length, get_or, drop, Option, Some, None, refl, sym, ap, subst, ◌∙◌, inl, inr, append_assoc, length-append, arith}
use Rattle.std.proofs.lemmas.List.{append-nil, get_or-append-add}
use Rattle.desk_ops.specs.declared.op.Op.{Op}
use Rattle.desk_codec.specs.declared.form.FeedForm.{FeedForm}
use Rattle.desk_codec.specs.Spelling.{size_of_kind}
use Rattle.desk_codec.specs.Fault.{BeginsRun, IsCutPrefix, IsCutRun}
use Rattle.desk_codec.specs.Pieces.{Reader, place_of, IsUnended, Reads, IsRead, Takes}
use Rattle.desk_codec.specs.PieceReading.{Lacks, Keeps, Resumes, IsReader}
use Rattle.desk_codec.proofs.FaultLaws.{kind_is, begins_length}
use Rattle.desk_codec.proofs.PieceLaws.{IsSound, begins_on, reads_after}

-- ---- how many bytes are lacking

pub resumes_from : (form : Option FeedForm) (place : ℕ) (kept : List ℕ) (missing : ℕ) → Keeps form place kept missing → Resumes form place kept
resumes_from None place kept missing h =
    let some = h.1 in
    let four = h.2 in
    (h.0, omega (arith, some, four))
resumes_from (Some form) place kept missing h = (h.0, subst (λ (l : List ℕ). IsUnended form l) (append-nil kept) (h.1.unended [] h.1.some))

pub room : (form : Option FeedForm) (place : ℕ) (kept : List ℕ) (missing : ℕ) → Keeps form place kept missing → missing + length kept ≤ 342
room None place kept missing h = let four = h.2 in omega (arith, four)
room (Some form) place kept missing h = h.1.room

pub sound : (r : Reader) (missing : ℕ) → IsReader r missing → IsSound r
sound r missing h = record { within = h.within; resumes = resumes_from r.form (place_of r) r.kept missing h.keeps }

-- ---- the bytes that begin an operation or a run lack so many

pub count_at : (bytes : List ℕ) (count : ℕ) (rest : List ℕ) → BeginsRun bytes count rest → get_or bytes 21 0 ≡ count
count_at bytes count rest h =
    let twenty : length h.stamps + 0 ≡ 20 = let t = h.twenty in omega (arith, t) in
    ap (λ (l : List ℕ). get_or l 21 0) h.prefix ∙ ap (λ (n : ℕ). get_or (h.stamps ++ count ∷ rest) n 0) (sym twenty) ∙ get_or-append-add h.stamps (count ∷ rest) 0 0

prefix_on : (form : FeedForm) (bytes more : List ℕ) → IsCutPrefix form bytes → length bytes + length more < 22 → IsUnended form (bytes ++ more)
prefix_on form bytes more h short =
    let len = length-append bytes more in
    inr (inr (inl (record { runs = h.runs; rest = h.rest ++ more; prefix = ap (λ (l : List ℕ). l ++ more) h.prefix; short = omega (arith, len, short) })))

run_on : (form : FeedForm) (bytes more : List ℕ) (h : IsCutRun form bytes) → length h.rest + length more < 5 * h.count → IsUnended form (bytes ++ more)
run_on form bytes more h short =
    let len = length-append h.rest more in
    inr (inr (inr (record { runs = h.runs; count = h.count; rest = h.rest ++ more; prefix = begins_on bytes more h.count h.rest h.prefix; within = h.within; short = omega (arith, len, short) })))

pub lacks_run : (form : FeedForm) (bytes : List ℕ) (k : ℕ) (rest : List ℕ) (size : ℕ) → bytes ≡ k ∷ rest → size_of_kind k ≡ None → (length bytes < 22 → size ≡ 22) → (22 ≤ length bytes → size ≡ 22 + 5 * get_or bytes 21 0) → IsUnended form bytes
    → (length bytes ≤ size) × Lacks form bytes (size - length bytes)
lacks_run form bytes k rest size e none before after (inl nil) = let never = sym nil ∙ e in absurd cc
lacks_run form bytes k rest size e none before after (inr (inl h)) =
    let kind : k ≡ h.kind = kind_is bytes k h.kind rest h.rest e h.prefix in
    let never = sym none ∙ ap size_of_kind kind ∙ h.some in
    absurd cc
lacks_run form bytes k rest size e none before after (inr (inr (inl h))) =
    let short = h.short in
    let is = before short in
    (omega (arith, short, is), record { some = omega (arith, short, is); room = omega (arith, short, is); unended = λ more lt. prefix_on form bytes more h (omega (arith, short, is, lt)) })
lacks_run form bytes k rest size e none before after (inr (inr (inr h))) =
    let len = begins_length bytes h.count h.rest h.prefix in
    let is = after (omega (arith, len)) in
    let count = count_at bytes h.count h.rest h.prefix in
    let short = h.short in
    let many = h.within.1 in
    (omega (arith, len, is, count, short), record { some = omega (arith, len, is, count, short); room = omega (arith, len, is, count, short, many); unended = λ more lt. run_on form bytes more h (omega (arith, len, is, count, short, lt)) })

-- ---- a piece that makes nothing whole

keeps_on : (form : Option FeedForm) (place : ℕ) (kept piece : List ℕ) (missing : ℕ) → Keeps form place kept missing → length piece < missing → Keeps form place (kept ++ piece) (missing - length piece)
keeps_on None place kept piece missing h few =
    let len = length-append kept piece in
    let four = h.2 in
    (h.0, omega (arith, few), omega (arith, few, len, four))
keeps_on (Some form) place kept piece missing h few =
    let len = length-append kept piece in
    let room = h.1.room in (
      h.0,
      record {
        some = omega (arith, few);
        room = omega (arith, few, len, room);
        unended = λ more lt. let both = length-append piece more in subst (λ (l : List ℕ). IsUnended form l) (sym (append_assoc kept piece more)) (h.1.unended (piece ++ more) (omega (arith, few, lt, both)));
      },
    )

-- the reader that keeps these bytes too
abbrev pub keeping : Reader → Option FeedForm → List ℕ → List ℕ → Reader
keeping r form piece kept = record { form = form; taken = r.taken + length piece; kept = kept; failed = r.failed }

same_place : (r : Reader) (piece : List ℕ) → length r.kept ≤ r.taken → place_of (keeping r r.form piece (r.kept ++ piece)) ≡ place_of r
same_place r piece within = let len : length (r.kept ++ piece) ≡ length r.kept + length piece = length-append r.kept piece in omega arith

kept_on : (r : Reader) (missing : ℕ) (piece : List ℕ) → IsReader r missing → length piece < missing → IsReader (keeping r r.form piece (r.kept ++ piece)) (missing - length piece)
kept_on r missing piece h few =
    let len : length (r.kept ++ piece) ≡ length r.kept + length piece = length-append r.kept piece in
    let within = h.within in
    let place = same_place r piece h.within in
    record { within = omega arith; keeps = subst (λ (m : ℕ). Keeps r.form m (r.kept ++ piece) (missing - length piece)) (sym place) (keeps_on r.form (place_of r) r.kept piece missing h.keeps few) }

pub kept_reader : (r : Reader) (missing : ℕ) (piece kept : List ℕ) → IsReader r missing → length piece < missing → kept ≡ r.kept ++ piece → IsReader (keeping r r.form piece kept) (missing - length piece)
kept_reader r missing piece kept h few e = subst (λ (l : List ℕ). IsReader (keeping r r.form piece l) (missing - length piece)) (sym e) (kept_on r missing piece h few)

kept_read : (form : Option FeedForm) (place : ℕ) (kept : List ℕ) (missing : ℕ) (piece : List ℕ) → Keeps form place kept missing → length piece < missing → IsRead form (kept ++ piece) [] form (kept ++ piece)
kept_read None place kept missing piece h few =
    let len = length-append kept piece in
    let four = h.2 in
    inl (record { prefix = refl; still = refl; short = omega (arith, few, len, four); none = refl; all = refl })
kept_read (Some form) place kept missing piece h few =
    inr (form, refl, record { agrees = refl; items = []; prefix = []; spells = refl; joined = refl; split = refl; unended = h.1.unended piece few })

pub kept_takes : (r : Reader) (missing : ℕ) (piece kept : List ℕ) (ops : List Op) → IsReader r missing → length piece < missing → kept ≡ r.kept ++ piece → ops ≡ [] → r.failed ≡ false → Takes r piece ops (keeping r r.form piece kept)
kept_takes r missing piece kept ops h few e none f =
    record {
      answers = f;
      answers_on = f;
      taken = refl;
      read = subst (λ (l : List ℕ). IsRead r.form (r.kept ++ piece) ops r.form l) (sym e)
          (subst (λ (l : List Op). IsRead r.form (r.kept ++ piece) l r.form (r.kept ++ piece)) (sym none) (kept_read r.form (place_of r) r.kept missing piece h.keeps few));
    }

-- ---- a piece that makes something whole

pub read_reader : (r : Reader) (missing lacking : ℕ) (piece kept : List ℕ) (ops : List Op) (form : FeedForm) → IsReader r missing → Reads r.form (r.kept ++ piece) ops form kept → Lacks form kept lacking → IsReader (keeping r (Some form) piece kept) lacking
read_reader r missing lacking piece kept ops form h d lacks =
    let after = reads_after r (keeping r (Some form) piece kept) piece ops form (sound r missing h) refl refl d in
    record { within = after.0.within; keeps = (after.1, lacks) }

pub first_here : (bytes : List ℕ) (b : ℕ) → 0 < length bytes → b ≡ get_or bytes 0 0 → bytes ≡ b ∷ drop 1 bytes
first_here [] b some e = absurd (omega arith)
first_here (k ∷ bytes) b some e = ap (λ (n : ℕ). n ∷ bytes) (sym e)
