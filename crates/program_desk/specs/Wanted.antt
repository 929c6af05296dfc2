-- What galleys, ribbons and readings are made of, as the words ask for them.
use Rattle.std.specs.Prelude.{◌≡◌, Bool, List, Option, None, Some}
use Rattle.std.specs.Borrow.{Bor}
use Rattle.clap.specs.Words.{Text}
use Rattle.program_words.specs.declared.choices.Extent as asked_extent
use Rattle.program_words.specs.declared.choices.Extent.TheVariants as asked_extents
use Rattle.program_words.specs.declared.choices.Form as asked_form
use Rattle.program_words.specs.declared.choices.Form.TheVariants as asked_forms
use Rattle.program_words.specs.declared.choices.Source as asked_source
use Rattle.program_words.specs.declared.choices.Source.TheVariants as asked_sources
use Rattle.program_words.specs.declared.wishes.Drawings.{Drawings}
use Rattle.program_words.specs.declared.wishes.Galley.{Galley}
use Rattle.program_words.specs.declared.wishes.Ribbon.{Ribbon}
use Rattle.view_preview.specs.declared.job.Source.{Source}
use Rattle.view_preview.specs.declared.job.Source.TheVariants as sources
use Rattle.view_preview.specs.declared.manner.Form.{Form}
use Rattle.view_preview.specs.declared.manner.Form.TheVariants as forms
use Rattle.view_punch.specs.Punching.{feeds_of}
use Rattle.view_punch.specs.declared.punching.Galleys.{Galleys}
use Rattle.view_ribbon.specs.declared.extent.Extent.{Extent}
use Rattle.view_ribbon.specs.declared.extent.Extent.TheVariants as extents
use Rattle.program_desk.specs.declared.previews.Preview.{Preview}
use Rattle.program_desk.specs.declared.readings.Reading.{Reading}

-- these are stored feeds, and the files of a case and a wedge
abbrev pub AreGalleys : Galleys → List (Bor Text) → (case wedge : Bor Text) → Type 0
AreGalleys from feeds case wedge = (feeds_of from ≡ feeds) × (from.case ≡ case) × (from.wedge ≡ wedge)

-- what a galley is of
abbrev pub source_of : asked_source.Source → Source
source_of (asked_sources.Feed name until) = sources.Feed (record { feed = name; until = until })
source_of (asked_sources.Text name plain) = sources.Text name plain

-- how it is written
abbrev pub form_of : asked_form.Form → Form
form_of asked_forms.Whole = forms.Whole
form_of asked_forms.Faults = forms.Faults
form_of asked_forms.Located = forms.Located

-- a galley, with the files that it is drawn in
abbrev pub preview_of : Galley → Drawings → Preview
preview_of galley drawings = record {
  job = record { source = source_of galley.source; case = galley.case; wedge = galley.wedge };
  manner = record { form = form_of galley.form; looks = galley.looks };
  drawings = drawings;
}

-- how much is written of a ribbon
abbrev pub extent_of : asked_extent.Extent → Extent
extent_of asked_extents.Whole = extents.Lines None
extent_of (asked_extents.Lines first last) = extents.Lines (Some (record { first = first; last = last }))
extent_of (asked_extents.Figures over under) = extents.Figures (record { over = over; under = under })

-- a reading of a ribbon, with its picture
abbrev pub reading_of : Ribbon → asked_extent.Extent → Option (Bor Text) → Bool → Reading
reading_of from extent picture force = record {
  from = record { ribbon = from.ribbon; case = from.case; wedge = from.wedge };
  extent = extent_of extent;
  picture = picture;
  force = force;
}
