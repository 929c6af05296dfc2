-- A galley of a matter as text, in each form.
use Rattle.std.specs.Prelude.{◌≡◌, ℕ, Bool, List, [], ◌++◌, if◌then◌else◌}
use Rattle.desk_ops.specs.declared.fault.CopyFault.{CopyFault}
use Rattle.view_galley.specs.Values.{GalleyValues}
use Rattle.view_proof.specs.Proof.{no_galley_text, proof_text}
use Rattle.view_proof.specs.declared.proof.Extent.{Extent}
use Rattle.view_proof.specs.declared.proof.Extent.TheVariants as extents
use Rattle.view_proof.specs.declared.reasons.NoGalley.{NoGalley}
use Rattle.view_preview.specs.LocatedFaults.{located_no_galley, located_text}
use Rattle.view_preview.specs.LookLines.{looks_text, warnings_text}
use Rattle.view_preview.specs.Looks.{looks_of}
use Rattle.view_preview.specs.Matter.{MatterValues}
use Rattle.view_preview.specs.Places.{end_in, places_in}
use Rattle.view_preview.specs.declared.located_faults.Located.{Located}
use Rattle.view_preview.specs.declared.manner.Form.{Form}
use Rattle.view_preview.specs.declared.manner.Form.TheVariants as forms

-- the proof, and then the second looks, where these are wanted
abbrev pub shown_text : MatterValues → GalleyValues → Extent → Bool → List ℕ
shown_text matter galley extent looks =
    proof_text matter.copy matter.faults galley extent
    ++ (if looks then looks_text matter.copy (looks_of matter.copy galley.lines) else [])

-- the faults where they are in a text, and then the second looks, where these are wanted
abbrev pub located_in : Located → MatterValues → GalleyValues → Bool → List ℕ
located_in at matter galley looks =
    located_text at matter.copy matter.faults galley
    ++ (if looks then warnings_text at (looks_of matter.copy galley.lines) else [])

-- the text of a matter, under this name, with the places of its symbols
pub record IsTextOf (name : List ℕ) (matter : MatterValues) (at : Located) : Type 0 where
  pub named : (at.name).now ≡ name
  pub places : (at.places).now ≡ places_in matter.plain matter.text
  pub end : at.end ≡ end_in matter.text

-- what is written of a galley in a form, with or without second looks
abbrev pub IsWritten : List ℕ → MatterValues → GalleyValues → Form → Bool → List ℕ → Type 0
IsWritten name matter galley forms.Whole looks text = text ≡ shown_text matter galley extents.Whole looks
IsWritten name matter galley forms.Faults looks text = text ≡ shown_text matter galley extents.Faults looks
IsWritten name matter galley forms.Located looks text = (at : Located) × IsTextOf name matter at
    × (text ≡ located_in at matter galley looks)

-- why there is none, in a form
abbrev pub none_text : List ℕ → List CopyFault → NoGalley → Form → List ℕ
none_text name faults why forms.Whole = no_galley_text faults why
none_text name faults why forms.Faults = no_galley_text faults why
none_text name faults why forms.Located = located_no_galley name faults why
