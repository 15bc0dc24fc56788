use native.Mathlib.Omega.{arith}
use mathlib.Core.Path.{refl, ◌∙◌}
use Rattle.compiler.proofs.Seeing.{passes_in}
use Rattle.compiler.proofs.Setting.{fits_settings, fits_header, fits_beginning}
use Rattle.compiler.proofs.settings.begin.Goals as goal

pub emit_settings-settled-requires : goal.emit_settings-settled-requires
emit_settings-settled-requires c = fits_settings c.requires.0.fits refl c.requires.1

pub header-requires : goal.header-requires
header-requires c = fits_header c.requires.0.fits refl c.requires.1 c.emit_settings-settled.ensures

pub overflow_add-result : goal.overflow_add-result
overflow_add-result c = omega (arith, fits_header c.requires.0.fits refl c.requires.1 c.emit_settings-settled.ensures)

pub returns : goal.returns
returns c =
    let settles = c.emit_settings-settled.ensures in
    record {
      begins = λ fits.
          fits_beginning fits refl c.requires.1 settles (c.skip.ensures.text ∙ settles.text) (passes_in settles.text c.skip.ensures)
          c.header.ensures refl;
      out = refl;
    }
