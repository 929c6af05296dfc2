-- What is found of lines one after the other is found of all of them.
use Rattle.std.proofs.Common.{◌≡◌, ℕ, suc, ◌+◌, List, [], ◌∷◌, ◌++◌, length, refl, sym, ap, ◌∙◌, append_assoc, arith, length-append}
use Rattle.std.specs.List.{AllByRecursion, flat_map}
use Rattle.std.proofs.lemmas.Grind.{flat_map-append}
use Rattle.desk_signals.specs.declared.RibbonRow.{RibbonRow}
use Rattle.desk_job.specs.Job.{Terms, SetLine, line_rows, line_fault, line_faults}
use Rattle.desk_job.specs.Making.{Found, Adds, CanAdd}
use Rattle.desk_job.specs.Setting.{Fits}
use Rattle.desk_job.specs.declared.JobFault.{JobFault}

-- a list that is empty with more behind it is empty
pub none_before : {A : Type 0} (xs ys : List A) → xs ++ ys ≡ [] → xs ≡ []
none_before [] ys none = refl
none_before (x ∷ xs) ys none = absurd (let e : length (x ∷ (xs ++ ys)) ≡ 0 = ap length none in omega (arith, e))

pub faults_append : (terms : Terms) (n : ℕ) (prefix back : List SetLine) →
    line_faults terms n (prefix ++ back) ≡ line_faults terms n prefix ++ line_faults terms (n + length prefix) back
faults_append terms n [] back = let e : n + 0 ≡ n = omega arith in rw e refl
faults_append terms n (line ∷ prefix) back =
    let e : n + suc (length prefix) ≡ suc n + length prefix = omega arith in
    rw (faults_append terms (suc n) prefix back, e) (sym (append_assoc (line_fault terms n line) (line_faults terms (suc n) prefix) (line_faults terms (suc n + length prefix) back)))

-- both parts of a list whose elements all have P
pub each_part : {A : Type 0} (P : A → Type 0) (xs ys : List A) → AllByRecursion P (xs ++ ys) → AllByRecursion P xs × AllByRecursion P ys
each_part P [] ys each = (tt, each)
each_part P (x ∷ xs) ys each = let more = each_part P xs ys each.1 in ((each.0, more.0), more.1)

-- of all the lines these are still to come
pub record IsAdding (terms : Terms) (rest all : List SetLine) (old now : Found) : Type 0 where
  pub fit : AllByRecursion (Fits terms) rest
  pub numbered : now.next + length rest ≡ old.next + length all
  pub faulted : now.faults ++ line_faults terms now.next rest ≡ old.faults ++ line_faults terms old.next all
  pub none : now.faults ≡ [] → old.faults ≡ []
  pub punched : now.faults ≡ [] → now.rows ++ flat_map (line_rows terms) rest ≡ old.rows ++ flat_map (line_rows terms) all

pub adding_step : (terms : Terms) (ls rest all : List SetLine) (old now new : Found) →
    IsAdding terms (ls ++ rest) all old now → Adds terms ls now new → IsAdding terms rest all old new
adding_step terms ls rest all old now new is adds =
    let long = length-append ls rest in
    let before : new.faults ≡ [] → now.faults ≡ [] = (λ none. none_before now.faults (line_faults terms now.next ls) (sym adds.faulted ∙ none)) in
    record {
      fit = (each_part (Fits terms) ls rest is.fit).1;
      numbered = let a = is.numbered in let b = adds.numbered in omega (arith, a, b, long);
      faulted = rw (adds.faulted, adds.numbered) (append_assoc now.faults (line_faults terms now.next ls) (line_faults terms (now.next + length ls) rest)
          ∙ (ap (λ (l : List JobFault). now.faults ++ l) (sym (faults_append terms now.next ls rest)) ∙ is.faulted));
      none = λ none. is.none (before none);
      punched = λ none. (rw (adds.punched none) (append_assoc now.rows (flat_map (line_rows terms) ls) (flat_map (line_rows terms) rest)
          ∙ (ap (λ (l : List RibbonRow). now.rows ++ l) (sym (flat_map-append (line_rows terms) ls rest)) ∙ is.punched (before none))));
    }

-- the next of them can be added
pub adding_room : (terms : Terms) (ls rest all : List SetLine) (old now : Found) →
    CanAdd terms all old → IsAdding terms (ls ++ rest) all old now → CanAdd terms ls now
adding_room terms ls rest all old now room is =
    let long = length-append ls rest in
    let numbers = room.numbers in
    let numbered = is.numbered in
    record {
      fit = (each_part (Fits terms) ls rest is.fit).0;
      rows = λ none. (let few = room.rows (is.none none) in
          let e : length (now.rows ++ flat_map (line_rows terms) (ls ++ rest)) ≡ length (old.rows ++ flat_map (line_rows terms) all) = ap length (is.punched none) in
          let a = length-append now.rows (flat_map (line_rows terms) (ls ++ rest)) in
          let b = length-append old.rows (flat_map (line_rows terms) all) in
          let f : length (flat_map (line_rows terms) (ls ++ rest)) ≡ length (flat_map (line_rows terms) ls) + length (flat_map (line_rows terms) rest) =
          ap length (flat_map-append (line_rows terms) ls rest) ∙ length-append (flat_map (line_rows terms) ls) (flat_map (line_rows terms) rest) in
          omega (arith, few, e, a, b, f));
      numbers = omega (arith, numbers, numbered, long);
    }
