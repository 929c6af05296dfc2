-- No word is added for an option that is typed.
use Rattle.std.proofs.Common.{◌≡◌, ◌∙◌, ◌&&◌, Bool, true, false, not, List, [], ◌∷◌, refl, sym, ap, if◌then◌else◌}
use Rattle.std.proofs.lemmas.Bool.{false≢true}
use Rattle.std.proofs.lemmas.List.Elements.{All-nil, All-cons}
use Rattle.std.specs.Prelude.{All, codes}
use Rattle.std.specs.Str.{bytes_eq}
use Rattle.program_desk.specs.Completed.{Word, added, is_given, is_settled, named, takes, typed, wants, word_of}
use Rattle.feed_check.specs.RoomOptions.{Given}
use Rattle.feed_check.specs.declared.room_options.RoomKey.{RoomKey}
use Rattle.feed_check.specs.declared.room_options.RoomKey.TheVariants as rooms

-- the name of a word that an option adds is the option's
name_of_word : (key : RoomKey) (value : Word) → named (word_of (key, value)) ≡ typed key
name_of_word rooms.Site value = refl
name_of_word rooms.Case value = refl
name_of_word rooms.Wedge value = refl
name_of_word rooms.Set value = refl

and_right : (a b : Bool) → a && b ≡ true → b ≡ true
and_right true b both = both
and_right false b both = absurd (false≢true both)

is_not : (b : Bool) → not b ≡ true → b ≡ false
is_not true h = absurd (false≢true h)
is_not false h = refl

-- what is settled is given
settled_is_given : (key : RoomKey) (words : List Word) → is_settled key words ≡ true → is_given (typed key) words ≡ true
settled_is_given rooms.Site words settled = settled
settled_is_given rooms.Case words settled = settled
settled_is_given rooms.Wedge words settled = settled
settled_is_given rooms.Set words settled = absurd (false≢true settled)

-- `--set` is settled by no words, and no other option is called so
set_is_none : (key : RoomKey) (words : List Word) → is_settled key words ≡ true → typed rooms.Set ≡ typed key → ⊥
set_is_none rooms.Site words settled same = false≢true (ap (λ t. bytes_eq t (codes "--set")) (sym same))
set_is_none rooms.Case words settled same = false≢true (ap (λ t. bytes_eq t (codes "--set")) (sym same))
set_is_none rooms.Wedge words settled same = false≢true (ap (λ t. bytes_eq t (codes "--set")) (sym same))
set_is_none rooms.Set words settled same = false≢true settled

-- an option that is not settled is no other that is
apart : (option key : RoomKey) (words : List Word) → is_settled option words ≡ false → is_settled key words ≡ true → typed option ≡ typed key → ⊥
apart rooms.Site key words free settled same = false≢true (sym free ∙ ap (λ t. is_given t words) same ∙ settled_is_given key words settled)
apart rooms.Case key words free settled same = false≢true (sym free ∙ ap (λ t. is_given t words) same ∙ settled_is_given key words settled)
apart rooms.Wedge key words free settled same = false≢true (sym free ∙ ap (λ t. is_given t words) same ∙ settled_is_given key words settled)
apart rooms.Set key words free settled same = set_is_none key words settled same

not_typed : (option : Given) (name : Word) (words : List Word) (key : RoomKey) → wants name words option.0 ≡ true → is_settled key words ≡ true → named (word_of option) ≡ typed key → ⊥
not_typed (one, value) name words key wanted settled same =
    apart one key words (is_not (is_settled one words) (and_right (takes name one) (not (is_settled one words)) wanted)) settled (sym (name_of_word one value) ∙ same)

one_more : (P : Word → Type 0) (b : Bool) (word : Word) (more : List Word) → (b ≡ true → P word) → All P more → All P (if b then word ∷ more else more)
one_more P true word more fine all = All-cons P word more (fine refl) all
one_more P false word more fine all = all

pub none_is_typed : (options : List Given) (name : Word) (words : List Word) (key : RoomKey) → is_settled key words ≡ true → All (λ word. ¬ (named word ≡ typed key)) (added name words options)
none_is_typed [] name words key settled = All-nil (λ word. ¬ (named word ≡ typed key))
none_is_typed (option ∷ options) name words key settled =
    one_more (λ word. ¬ (named word ≡ typed key)) (wants name words option.0) (word_of option) (added name words options)
    (λ wanted. λ same. not_typed option name words key wanted settled same) (none_is_typed options name words key settled)
