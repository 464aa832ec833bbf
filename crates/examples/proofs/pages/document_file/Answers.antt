use Rattle.std.proofs.Common.{refl}
use Rattle.std.specs.Fmt.{digits}
use Rattle.pagefile.specs.File.{u16_at, u32_at}
use Rattle.examples.specs.Pages.{Texts, Pages, Refused}
use Rattle.examples.proofs.pages.document_file.Goals as goal

texts-are : Texts
texts-are = (refl, (refl, (refl, (refl, (refl, (refl, (refl, (refl, (refl, (refl, tt))))))))))

pages-are : Pages
unfolding digits u16_at u32_at
pages-are = ((refl, refl), ((refl, refl), tt))

refused-are : Refused
unfolding digits u16_at u32_at
refused-are = (refl, (refl, (refl, (refl, tt))))

pub returns : goal.returns
returns c = record { file = refl; texts = texts-are; pages = pages-are; refused = refused-are }
