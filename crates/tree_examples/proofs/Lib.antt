mod Small
mod ExamplesTree
mod ExamplesShared
mod ExamplesPrinted
mod ExamplesPairs
mod ExamplesFewest
mod ExamplesGood
